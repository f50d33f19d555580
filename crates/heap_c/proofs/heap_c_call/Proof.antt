-- The heap is lent for the call, and comes back at its last value.
use Rattle.std.proofs.Common.{ℕ, [], ◌∷◌, ◌++◌, refl, w64, MutBor}
use Rattle.std.proofs.raw_atomic.Walks.{proved}
use base.Fraction.{full_share}
use base.Logic.{id⊢}
use base.Fml.{ftrue, flft, flent}
use mir.Syntax.{named}
use mir.Val.{vptr}
use prog.Wp.{WpFn}
use contract.Running.{tables}
use types.Kit.{keep, ‵, raw, ◌⊛◌, some, later, prop, ◌$◌, ◌∵◌, !, qed, done, move, drop, use1, use2, use3, split, join, fsplit, fpick, fpack, pick, await, regoal, suffices, group}
use types.Run.{enter, of_opd, addr, stop, no_more, and_then, returns}
use types.ByLocal.{alloc_all, pass_all, free_all, look_at, get, through, sets, lands_as}
use types.Tokens.{lft_new, lft_end}
use types.SemTy.{Body}
use denote.Builtin.{u64}
use denote.Exit.{yes}
use denote.Lend.{lends_ref, ref_back}
use denote.Memory.{mem, part_at}
use denote.Plain.{uint_vals, uint_Tells, uint_Makes, uint_Lawful}
use denote.RawPtr.{Ptr, RawPtr, block_ptr, lies_at, in_a_block, rawptr_vals, rawptr_Tells}
use denote.Ref.{MutRef}
use denote.Signature.{plain}
use denote.Steps.{nothing, peeks, owned}
use denote.Laws.{Is, shows}
use denote.Triple.Call.{calls_at}
use denote.Triple.Clauses.{Lasts, lasts}
use denote.Triple.Entry.{on_entry}
use denote.Triple.Spec.{triple_of}
use denote.Triple.Table.{framed}
use denote.Triple.Walked.{Stays, walk_of, stay_dropped, Goes-dropped, ends_at}
use Rattle.heap_c.specs.Kept.{kept}
use Rattle.heap_c.specs.contracts.kept.Kept.{the_row as R}
use Rattle.heap_c.specs.contracts.heap_c_call as f
use Rattle.heap_c.proofs.heap_c_call.Statement.{statement}
use Rattle.heap_c.proofs.heap_c_call.Code as code
use Rattle.heap_c.specs.contracts.kept.call as g
use Rattle.heap_c.proofs.kept.call.Met.{met}

abbrev stayed : Stays f.ended.signature.params f.ended.kept
stayed = (stay_dropped _ yes, (stay_dropped _ yes, (stay_dropped _ yes, (stay_dropped _ yes, (stay_dropped _ yes, (stay_dropped _ yes, tt))))))

pub heap_c_call_spec : {M : Type 1} → statement M
heap_c_call_spec 𝓤 𝓛 𝓜 𝓡 wired =
    let c = f.clauses 𝓛 𝓜.mem 𝓡.returns in let W = walk_of 𝓛 f.ended stayed c in let 𝓣 = tables 𝓤 𝓛.H 𝓜 𝓡 𝓡.env in
    let G = triple_of 𝓛 g.signature (g.spec 𝓛 𝓜.mem 𝓡.returns) in
    let num = Goes-dropped 𝓛 0 (plain (λ _. u64)) yes (λ κs x w. refl) in
    proved 𝓛 f.ended stayed c 𝓜 𝓡 (Goes-dropped 𝓛 0 (plain (λ _. RawPtr)) yes (λ κs x w. refl), (num, (num, (num, (num, (num, tt))))))
    f.Key.name code.function (code.unfolded 𝓤 𝓛.H 𝓜 𝓡 wired)
    (λ κs. (rawptr_vals, (uint_vals w64, (uint_vals w64, (uint_vals w64, (uint_vals w64, (uint_vals w64, tt))))))) (λ κs. (rawptr_Tells, (uint_Tells w64, (uint_Tells w64, (uint_Tells w64, (uint_Tells w64, (uint_Tells w64, tt))))))) (λ κs qs bounds a _ are.
    let x1 = a.1.0 in
    let x2 = a.1.1.0 in
    let x3 = a.1.1.1.0 in
    let x4 = a.1.1.1.1.0 in
    let x5 = a.1.1.1.1.1.0 in
    let y : Ptr → W.Ghost = λ p. ((κs, qs, bounds, (p, (x1, (x2, (x3, (x4, (x5, tt)))))), (rawptr_vals p, (uint_vals w64 x1, (uint_vals w64 x2, (uint_vals w64 x3, (uint_vals w64 x4, (uint_vals w64 x5, tt))))))), tt) in
    qed 𝓛 (raw (on_entry 𝓛 f.signature κs qs a (y a.0).0.4) ∷ ‵ (kept a.0) ∷ []) ∵ drop ! $ fpick ! (λ s.
    in_a_block ! a.0 (λ p. lies_at R full_share p s) (id⊢ 𝓤 _) (λ b o e.
    regoal ! (λ p. prop (WpFn 𝓤 𝓛.H 𝓣.C 𝓣.Λ code.function (rawptr_vals p ++ (uint_vals w64 x1 ++ (uint_vals w64 x2 ++ (uint_vals w64 x3 ++ (uint_vals w64 x4 ++ (uint_vals w64 x5 ++ [])))))) (W.post (y p)))) e refl $
    enter ! _ _ _ _ _ $ alloc_all ! (λ l. pass_all ! refl ((tt, tt), ((tt, record { fits = are.1.0.1 }), ((tt, record { fits = are.1.1.0.1 }), ((tt, record { fits = are.1.1.1.0.1 }), ((tt, record { fits = are.1.1.1.1.0.1 }), ((tt, record { fits = are.1.1.1.1.1.0.1 }), tt)))))) $
    sets ! (of_opd ! (get ! refl)) refl (tt, tt) $
    sets ! (addr ! (through ! refl (stop !))) refl (tt, tt) $
    lft_new ! tt (λ α. move ! (1 ∷ []) $
    use1 𝓛 (later (some (λ (γ : ℕ). ‵ ((MutRef (named 0) (α ∷ []) R).own_val (record { ref_ptr = (b, o); ghost_name = γ; now = s }) (vptr b o ∷ [])) ⊛ ‵ (flent (α ∷ []) (Body (mem R) b o γ)))))
    (lends_ref 𝓛 R (named 0) (α ∷ []) s b o) $ await ! tt $ pick ! (λ γ. split ! $
    -- [the loan; what the lender keeps; the token of α]
    let r₀ : MutBor R.Denot = record { ref_ptr = (b, o); ghost_name = γ; now = s } in
    let z : G.Ghost = (((α ∷ [], tt), (full_share, tt), tt, (r₀, (x1, (x2, (x3, (x4, (x5, tt)))))), (vptr b o ∷ [], (uint_vals w64 x1, (uint_vals w64 x2, (uint_vals w64 x3, (uint_vals w64 x4, (uint_vals w64 x5, tt))))))), tt) in
    nothing ! $ owned ! u64 _ (uint_Makes 𝓛 w64) x5 _ (refl, are.1.1.1.1.1.0.1) $ join ! $ owned ! u64 _ (uint_Makes 𝓛 w64) x4 _ (refl, are.1.1.1.1.0.1) $ join ! $ owned ! u64 _ (uint_Makes 𝓛 w64) x3 _ (refl, are.1.1.1.0.1) $ join ! $ owned ! u64 _ (uint_Makes 𝓛 w64) x2 _ (refl, are.1.1.0.1) $ join ! $ owned ! u64 _ (uint_Makes 𝓛 w64) x1 _ (refl, are.1.0.1) $ join ! $ move ! (1 ∷ 0 ∷ []) $ join ! $
    nothing ! $ move ! (3 ∷ 0 ∷ []) $ join ! $ join ! $ nothing ! $ move ! (1 ∷ 0 ∷ []) $ use2 𝓛 (raw (G.pre z)) (id⊢ 𝓤 _) $
    calls_at ! (framed 𝓤 𝓛.H 𝓜 𝓣) G (met 𝓤 𝓛 𝓜 𝓡 (code.calls-heap_c::kept::call 𝓡.env wired)) z
    (and_then ! (get ! refl) (and_then ! (get ! refl) (and_then ! (get ! refl) (and_then ! (get ! refl) (and_then ! (get ! refl) (and_then ! (get ! refl) (no_more !))))))) (λ v.
    use1 𝓛 (later (some (λ (r : ℕ). ((‵ (flft (α ∷ []) full_share) ⊛ ‵ ftrue) ⊛ ‵ (u64.own_val r (v ∷ []))) ⊛
    some (λ (ws : Lasts g.ended (α ∷ [], tt) (r₀, (x1, (x2, (x3, (x4, (x5, tt))))))). ‵ (lasts g.ended z.0.0 z.0.3 ws) ⊛ ‵ ftrue)))) (id⊢ 𝓤 _) $
    await ! tt $ pick ! (λ r. split ! $ split ! $ split ! $ lft_end ! tt $
    -- [α is over; nothing; the result; the last value; what the lender keeps]
    move ! (3 ∷ []) $ pick ! (λ ws. split ! $ fsplit ! $ fsplit ! $
    -- [the last value; its borrow; nothing; nothing; α is over; nothing; the result; what the lender keeps]
    move ! (4 ∷ 7 ∷ 0 ∷ []) $ use3 𝓛 (later (‵ (part_at R full_share ws.0 b o))) (ref_back 𝓛 R (α ∷ []) γ ws.0 b o) $ await ! tt $
    move ! (5 ∷ []) $ peeks ! u64 (Is u64) (shows 𝓛 u64) r (v ∷ []) (λ is. lands_as ! refl refl ((uint_Lawful 𝓛 w64).typed r _ is).0 $
    returns ! (look_at ! 0 refl) $ free_all ! refl $ keep ! (1 ∷ 0 ∷ []) $
    suffices ! _ (ends_at 𝓛 f.ended stayed c (y (block_ptr b o)) v r (tt, (tt, (tt, (tt, (tt, (tt, tt)))))) (tt, (tt, (tt, (tt, (tt, (tt, tt))))))) $
    fpack ! R.Denot (λ t. lies_at R full_share (block_ptr b o) t) ws.0 $
    move ! (1 ∷ []) $ nothing ! $ nothing ! $ join ! $ nothing ! $ join ! $ nothing ! $ join ! $ nothing ! $ join ! $ nothing ! $ join ! $ nothing ! $ join ! $ nothing ! $ group ! 3 $ done !))))))))))
