-- A state is made, and moved into the room.
use Rattle.std.proofs.Common.{[], ◌∷◌, ◌++◌, refl}
use Rattle.std.proofs.raw_atomic.Walks.{proved}
use base.Fraction.{full_share}
use base.Logic.{id⊢}
use base.Fml.{ftrue}
use mir.Syntax.{Ty}
use mir.Val.{vunit}
use prog.Wp.{WpFn}
use contract.Running.{tables}
use types.Kit.{‵, raw, ◌⊛◌, some, later, prop, ◌$◌, ◌∵◌, !, qed, done, move, keep, drop, use1, use2, split, join, fpack, feq_i, pick, await, regoal, suffices, group}
use types.Run.{enter, of_opd, unit_lit, stop, no_more, and_then, returns, assigns, init}
use types.ByLocal.{alloc_all, pass_all, free_all, look_at, get, through, sets, lands_as}
use denote.Exit.{yes}
use denote.Memory.{lone, part_at}
use denote.RawPtr.{Ptr, RawPtr, block_ptr, lies_at, room_at, in_a_block, rawptr_vals, rawptr_Tells}
use denote.Signature.{plain}
use denote.Steps.{nothing, peeks}
use denote.Laws.{Is, shows}
use denote.Triple.Call.{calls_at}
use denote.Triple.Clauses.{Lasts, lasts}
use denote.Triple.Spec.{triple_of}
use denote.Triple.Table.{framed}
use denote.Triple.Walked.{Stays, walk_of, stay_dropped, Goes-dropped, ends_at}
use borrow.Table.OneValue.{part_in}
use Rattle.std_heap.proofs.Handle.{heap_val, heap_Tells}
use Rattle.std.specs.contracts.alloc.Global as HP
use Rattle.heap_c.specs.Kept.{room}
use Rattle.heap_c.specs.contracts.kept.Kept.{the_row as R}
use Rattle.heap_c.proofs.kept.Kept.TheLaws as laws
use Rattle.heap_c.specs.contracts.heap_c_open as f
use Rattle.heap_c.proofs.heap_c_open.Statement.{statement}
use Rattle.heap_c.proofs.heap_c_open.Code as code
use Rattle.heap_c.specs.contracts.kept.make as g
use Rattle.heap_c.proofs.kept.make.Met.{met}

abbrev stayed : Stays f.ended.signature.params f.ended.kept
stayed = (stay_dropped _ yes, (stay_dropped _ yes, tt))

abbrev τ : Ty
τ = lone R.mir

pub heap_c_open_spec : {M : Type 1} → statement M
heap_c_open_spec 𝓤 𝓛 𝓜 𝓡 wired =
    let c = f.clauses 𝓛 𝓜.mem 𝓡.returns in let W = walk_of 𝓛 f.ended stayed c in let 𝓣 = tables 𝓤 𝓛.H 𝓜 𝓡 𝓡.env in
    let G = triple_of 𝓛 g.signature (g.spec 𝓛 𝓜.mem 𝓡.returns) in
    proved 𝓛 f.ended stayed c 𝓜 𝓡 (Goes-dropped 𝓛 0 (plain (λ _. HP.the_row)) yes (λ κs x w. refl), (Goes-dropped 𝓛 0 (plain (λ _. RawPtr)) yes (λ κs x w. refl), tt))
    f.Key.name code.function (code.unfolded 𝓤 𝓛.H 𝓜 𝓡 wired)
    (λ κs. ((λ _. heap_val ∷ []), (rawptr_vals, tt))) (λ κs. (heap_Tells, (rawptr_Tells, tt))) (λ κs qs bounds a _ are.
    let y : Ptr → W.Ghost = λ p. ((κs, qs, bounds, (a.0, (p, tt)), (heap_val ∷ [], (rawptr_vals p, tt))), tt) in
    qed 𝓛 ((‵ ftrue ⊛ ‵ (HP.the_row.own_val a.0 (heap_val ∷ [])) ⊛ ‵ (RawPtr.own_val a.1.0 (rawptr_vals a.1.0)) ⊛ ‵ ftrue) ∷ ‵ (room a.1.0) ∷ []) ∵
    split ! $ drop ! $ split ! $ move ! (1 ∷ []) $ drop ! $ move ! (1 ∷ []) $
    in_a_block ! a.1.0 (λ p. room_at R p) (id⊢ 𝓤 _) (λ b o e.
    regoal ! (λ p. prop (WpFn 𝓤 𝓛.H 𝓣.C 𝓣.Λ code.function ((heap_val ∷ []) ++ (rawptr_vals p ++ [])) (W.post (y p)))) e refl $
    -- [the room; what the handle owns]
    enter ! _ _ _ _ _ $ alloc_all ! (λ l. pass_all ! refl ((tt, ((tt, tt), tt)), ((tt, tt), tt)) $
    sets ! (of_opd ! (get ! refl)) refl (tt, tt) $
    let z : G.Ghost = ((κs, qs, bounds, (a.0, tt), (heap_val ∷ [], tt)), tt) in
    move ! (1 ∷ []) $ nothing ! $ move ! (1 ∷ 0 ∷ []) $ join ! $ nothing ! $ join ! $ nothing ! $ move ! (1 ∷ 0 ∷ []) $ use2 𝓛 (raw (G.pre z)) (id⊢ 𝓤 _) $
    calls_at ! (framed 𝓤 𝓛.H 𝓜 𝓣) G (met 𝓤 𝓛 𝓜 𝓡 (code.calls-heap_c::kept::make 𝓡.env wired)) z
    (and_then ! (get ! refl) (no_more !)) (λ v.
    use1 𝓛 (later (some (λ (r : R.Denot). (‵ ftrue ⊛ ‵ (R.own_val r (v ∷ []))) ⊛
    some (λ (ws : Lasts g.ended κs (a.0, tt)). ‵ (lasts g.ended z.0.0 z.0.3 ws) ⊛ ‵ ftrue)))) (id⊢ 𝓤 _) $
    await ! tt $ pick ! (λ r. split ! $ split ! $ drop ! $
    peeks ! R (Is R) (shows 𝓛 R) r (v ∷ []) (λ is. let t = ((laws.the_row_laws.lawful 𝓛).typed r (v ∷ []) is).0 in
    -- [what the state owns; the callee's last values; the room]
    lands_as ! refl refl t $
    assigns ! (of_opd ! (get ! refl)) (through ! refl (stop !)) (init ! 2 refl t) $
    sets ! (of_opd ! (unit_lit !)) refl (tt, tt) $
    returns ! (look_at ! 0 refl) $ free_all ! refl $ keep ! (2 ∷ 0 ∷ []) $
    use2 𝓛 (‵ (part_at R full_share r b o)) (part_in 𝓛 R refl full_share r b o v) $
    fpack ! R.Denot (λ t. lies_at R full_share (block_ptr b o) t) r $
    suffices ! _ (ends_at 𝓛 f.ended stayed c (y (block_ptr b o)) vunit tt (tt, (tt, tt)) (tt, (tt, tt))) $
    feq_i ! _ (vunit ∷ []) _ refl $ nothing ! $ nothing ! $ join ! $ nothing ! $ join ! $ nothing ! $ group ! 3 $ done !))))))
