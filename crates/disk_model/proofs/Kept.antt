-- What the disk in memory keeps true of its fields over a change.
use Rattle.std.proofs.Common.{◌≡◌, ℕ, ◌+◌, ◌-◌, ◌≤◌, false, List, [], ◌∷◌, ◌++◌, length, get_or, take, drop, map, refl, sym, ap, subst, ◌∙◌, ⊎_elim, arith, length-append}
use Rattle.std.specs.Prelude.{replicate}
use Rattle.std.specs.List.{All}
use Rattle.std.proofs.lemmas.Bool.{cases_Bool, or_parts}
use Rattle.std.proofs.lemmas.List.{map_push, drop-append-le, drop_all, drop_at, take_all, take-append-le, take_rest, length-drop}
use Rattle.std.proofs.lemmas.List.Elements.{All-push, All-weaker, All-head, All-tail}
use Rattle.disk_model.specs.declared.memory.Call.{Call}
use Rattle.disk_model.specs.declared.memory.Call.TheVariants.{Wrote, Synced, Restarted}
use Rattle.disk_model.specs.declared.memory.Pick.{Pick}
use Rattle.disk_model.specs.declared.memory.Pick.TheVariants.{Newest, AllOnes, AllOpen}
use Rattle.disk_model.specs.declared.memory.Pick.TheVariants as pick
use Rattle.disk_model.specs.Disk.{overwrite, part}
use Rattle.disk_model.specs.Memory.{Change, Write, Sync, Restart, Contents, is_in, is_within, blended, left_by, settled_as, after, after_all, contents_of}
use Rattle.disk_model.specs.Range.{range_of, Fits, IsTied}
use Rattle.disk_model.specs.Record.{change_of, IsInPool}
use Rattle.disk_model.proofs.Images.{get_or-overwrite_outside, same_images}
use Rattle.disk_model.proofs.Blended.{is_within-push, length-blended, get_or-blended_inside, get_or-blended_outside}

after_all-push : (pick : Pick) (at : Contents) (changes : List Change) (change : Change) → after_all pick at (changes ++ change ∷ []) ≡ after pick (after_all pick at changes) change
after_all-push pick at [] change = refl
after_all-push pick at (first ∷ changes) change = after_all-push pick (after pick at first) changes change

pub contents_of-push : (pick : Pick) (first : List ℕ) (changes : List Change) (change : Change) → contents_of pick first (changes ++ change ∷ []) ≡ after pick (contents_of pick first changes) change
unfolding contents_of
contents_of-push pick first changes change = after_all-push pick (settled_as first) changes change

pub contents_of-nil : (pick : Pick) (first : List ℕ) → contents_of pick first [] ≡ settled_as first
unfolding contents_of
contents_of-nil pick first = refl

part-append : (pool more : List ℕ) (from n : ℕ) → from + n ≤ length pool → part (pool ++ more) from n ≡ part pool from n
part-append pool more from n le =
    let fits : n ≤ length (drop from pool) = omega (arith, length-drop {A = ℕ}) in
    ap (take n) (drop-append-le from pool more (omega arith)) ∙ take-append-le n (drop from pool) more fits

part_end : (pool more : List ℕ) → part (pool ++ more) (length pool) (length more) ≡ more
part_end pool more = ap (take (length more)) (drop_at pool more (length pool) refl) ∙ take_all (length more) more (omega arith)

-- what the record says of earlier calls stays when the pool grows
changes-append : (pool more : List ℕ) (calls : List Call) → All (IsInPool (length pool)) calls → map (change_of (pool ++ more)) calls ≡ map (change_of pool) calls
changes-append pool more [] kept = refl
changes-append pool more (Wrote at from n ∷ calls) kept =
    let same = part-append pool more from n (All-head (IsInPool (length pool)) (Wrote at from n) calls kept) in
    let rest = changes-append pool more calls (All-tail (IsInPool (length pool)) (Wrote at from n) calls kept) in
    cc
changes-append pool more (Synced ∷ calls) kept = ap (λ cs. Sync ∷ cs) (changes-append pool more calls (All-tail (IsInPool (length pool)) Synced calls kept))
changes-append pool more (Restarted ∷ calls) kept = ap (λ cs. Restart ∷ cs) (changes-append pool more calls (All-tail (IsInPool (length pool)) Restarted calls kept))

pub changes-write : (pool piece : List ℕ) (calls : List Call) (at : ℕ) → All (IsInPool (length pool)) calls → map (change_of (pool ++ piece)) (calls ++ Wrote at (length pool) (length piece) ∷ []) ≡ map (change_of pool) calls ++ Write at piece ∷ []
changes-write pool piece calls at kept =
    map_push (change_of (pool ++ piece)) calls (Wrote at (length pool) (length piece))
    ∙ ap (λ cs. cs ++ Write at (part (pool ++ piece) (length pool) (length piece)) ∷ []) (changes-append pool piece calls kept)
    ∙ ap (λ bytes. map (change_of pool) calls ++ Write at bytes ∷ []) (part_end pool piece)

pub pending-push : (from : ℕ) (calls : List Call) (call : Call) → from ≤ length calls → map range_of (drop from (calls ++ call ∷ [])) ≡ map range_of (drop from calls) ++ range_of call ∷ []
pending-push from calls call le = ap (map range_of) (drop-append-le from calls (call ∷ []) le) ∙ map_push range_of (drop from calls) call

pub pending_none : (from : ℕ) (calls : List Call) → length calls ≤ from → map range_of (drop from calls) ≡ []
pending_none from calls le = ap (map range_of) (drop_all from calls le)

in_larger : (small large : ℕ) → small ≤ large → (call : Call) → IsInPool small call → IsInPool large call
in_larger small large le (Wrote at from n) in_ = omega (arith, in_)
in_larger small large le Synced in_ = tt
in_larger small large le Restarted in_ = tt

pub in_pool_write : (pool more : List ℕ) (calls : List Call) (at : ℕ) → All (IsInPool (length pool)) calls → All (IsInPool (length (pool ++ more))) (calls ++ Wrote at (length pool) (length more) ∷ [])
in_pool_write pool more calls at kept =
    let size = length-append pool more in
    let last : length pool + length more ≤ length (pool ++ more) = omega arith in
    All-push (IsInPool (length (pool ++ more))) calls (Wrote at (length pool) (length more)) (All-weaker (IsInPool (length pool)) (IsInPool (length (pool ++ more))) (in_larger (length pool) (length (pool ++ more)) (omega arith)) calls kept) last

pub fit_write : (size size' : ℕ) (pending : List (ℕ × ℕ)) (at n : ℕ) → size' ≡ size → at + n ≤ size → All (Fits size) pending → All (Fits size') (pending ++ (at, n) ∷ [])
fit_write size size' pending at n same le fit = subst (λ s. All (Fits s) (pending ++ (at, n) ∷ [])) (sym same) (All-push (Fits size) pending (at, n) fit le)

pub tied_write : (pending : List (ℕ × ℕ)) (synced newest bytes : List ℕ) (at : ℕ) → at + length bytes ≤ length newest → ((k : ℕ) → is_within pending k ≡ false → get_or synced k 0 ≡ get_or newest k 0) → (k : ℕ) → is_within (pending ++ (at, length bytes) ∷ []) k ≡ false → get_or synced k 0 ≡ get_or (overwrite newest at bytes) k 0
tied_write pending synced newest bytes at le tied k out =
    let apart = or_parts (is_within pending k) (is_in (at, length bytes) k) (sym (is_within-push pending (at, length bytes) k) ∙ out) in
    tied k apart.0 ∙ sym (get_or-overwrite_outside newest at bytes le k apart.1)

pub length-left_by : (pick : Pick) (at : Contents) → length (left_by pick at) ≡ length at.newest
length-left_by pick.Synced at = length-blended at.pending at.synced at.newest
length-left_by Newest at = refl
length-left_by AllOnes at = length-blended at.pending (replicate (length at.newest) 255) at.newest
length-left_by AllOpen at = length-blended at.pending (replicate (length at.newest) 1) at.newest

pub get_or-left_by : (pick : Pick) (at : Contents) (k : ℕ) → is_within at.pending k ≡ false → get_or (left_by pick at) k 0 ≡ get_or at.newest k 0
get_or-left_by pick.Synced at k out = get_or-blended_outside at.pending at.synced at.newest k out
get_or-left_by Newest at k out = refl
get_or-left_by AllOnes at k out = get_or-blended_outside at.pending (replicate (length at.newest) 255) at.newest k out
get_or-left_by AllOpen at k out = get_or-blended_outside at.pending (replicate (length at.newest) 1) at.newest k out

-- the synced bytes, with the newest ones where something is pending, are the newest
pub blended_all : (pending : List (ℕ × ℕ)) (newest synced : List ℕ) → length synced ≡ length newest → ((k : ℕ) → is_within pending k ≡ false → get_or synced k 0 ≡ get_or newest k 0) → blended pending newest synced ≡ newest
blended_all pending newest synced size tied =
    same_images _ _ (length-blended pending newest synced ∙ size) (λ k.
    ⊎_elim
    (λ in_. get_or-blended_inside pending newest synced k (sym size) in_)
    (λ out. get_or-blended_outside pending newest synced k out ∙ tied k out)
    (cases_Bool (is_within pending k)))

-- a copy over the calls from a place on, as the code names its slices
pub copied_pending : (from : ℕ) (out : List ℕ) (calls calls' : List Call) (newest newest' synced synced' : List ℕ) → out ≡ blended (map range_of (take (length calls' - from) (drop from calls'))) newest' synced' → calls' ≡ calls → newest' ≡ newest → synced' ≡ synced → out ≡ blended (map range_of (drop from calls)) newest synced
copied_pending from out calls calls' newest newest' synced synced' is calls_is newest_is synced_is =
    let rest = take_rest calls' from in
    cc

-- what a restart leaves, as the code names its slices
pub left_pending : (pick : Pick) (from : ℕ) (out : List ℕ) (calls calls' : List Call) (newest newest' synced synced' : List ℕ) → out ≡ left_by pick (record { newest = newest'; synced = synced'; pending = map range_of (take (length calls' - from) (drop from calls')) }) → calls' ≡ calls → newest' ≡ newest → synced' ≡ synced → (at : Contents) → newest ≡ at.newest → synced ≡ at.synced → map range_of (drop from calls) ≡ at.pending → out ≡ left_by pick at
left_pending pick from out calls calls' newest newest' synced synced' is calls_is newest_is synced_is at first second third =
    let rest = take_rest calls' from in
    let all : map range_of (take (length calls' - from) (drop from calls')) ≡ at.pending = ap (map range_of) (rest ∙ ap (drop from) calls_is) ∙ third in
    is
    ∙ ap (λ (image : List ℕ). left_by pick (record { newest = image; synced = synced'; pending = map range_of (take (length calls' - from) (drop from calls')) })) (newest_is ∙ first)
    ∙ ap (λ (image : List ℕ). left_by pick (record { newest = at.newest; synced = image; pending = map range_of (take (length calls' - from) (drop from calls')) })) (synced_is ∙ second)
    ∙ ap (λ (ranges : List (ℕ × ℕ)). left_by pick (record { newest = at.newest; synced = at.synced; pending = ranges })) all

-- the synced bytes, with what a restart leaves where something is pending, are what it leaves
pub blended_left : (pick : Pick) (newest synced image out : List ℕ) (pending : List (ℕ × ℕ)) → length synced ≡ length newest → IsTied pending synced newest → image ≡ left_by pick (record { newest = newest; synced = synced; pending = pending }) → out ≡ blended pending image synced → out ≡ image
blended_left pick newest synced image out pending size tied is copied =
    let at : Contents = record { newest = newest; synced = synced; pending = pending } in
    let same : length synced ≡ length image = size ∙ sym (length-left_by pick at) ∙ ap length (sym is) in
    copied ∙ blended_all pending image synced same (λ k apart. tied k apart ∙ sym (get_or-left_by pick at k apart) ∙ ap (λ bytes. get_or bytes k 0) (sym is))
