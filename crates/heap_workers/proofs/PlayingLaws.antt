-- Events that are sent one after another.
use Rattle.std.proofs.Common.{◌≡◌, ◌⊎◌, inl, inr, ℕ, ◌+◌, ◌*◌, ◌<◌, ◌≤◌, true, false, List, [], ◌∷◌, ◌++◌, length, drop, get_or, Result, Ok, Err, sym, refl, ap, subst, arith, append_assoc, append-nil, drop-cons, add-one, length-append, mul-suc}
use Rattle.std.specs.Prelude.{IsErr, MatchBool, MatchResult}
use Rattle.std.specs.List.{AllByRecursion}
use Rattle.std.specs.declared.alloc.AllocError.{AllocError}
use Rattle.graph_model.specs.declared.event.Event.{Event}
use Rattle.graph_model.specs.declared.event.Event.TheVariants.{Abort}
use Rattle.graph_model.specs.declared.reply.Entry.{Entry}
use Rattle.graph_model.specs.declared.reply.Reply.TheVariants.{Refused}
use Rattle.graph_model.specs.declared.reply.Refusal.TheVariants.{Failed}
use Rattle.graph_model.specs.History.{session_of}
use Rattle.heap_workers.specs.Playing.{calls_made, ends, IsBusyTo, Makes, Played, IsUnfinished}

-- what was sent before this place of the events: with what is then sent for the events from there on, it is what is sent for all
abbrev pub Goes : ℕ → List Event → ℕ → List Entry → Type 0
Goes tries events place part = (more : List Entry) → Played tries (drop place events) more → Played tries events (part ++ more)

-- an event was sent, and the next ones follow
played_on : (tries : ℕ) (event : Event) (events : List Event) (busy : List Entry) (last : Entry) (more : List Entry)
    → Makes tries event busy last → ends last.reply ≡ false → Played tries events more → Played tries (event ∷ events) (busy ++ last ∷ more)
played_on tries event events busy last more made goes_on rest = (busy, last, more, refl, made, subst (λ b. MatchBool b (more ≡ []) (Played tries events more)) (sym goes_on) rest)

-- an event was sent, and its answer ended the part
played_last : (tries : ℕ) (event : Event) (events : List Event) (busy : List Entry) (last : Entry)
    → Makes tries event busy last → ends last.reply ≡ true → Played tries (event ∷ events) (busy ++ last ∷ [])
played_last tries event events busy last made end =
    let none : List Entry = [] in
    let same : none ≡ none = refl in
    (busy, last, none, refl, made, subst (λ b. MatchBool b (none ≡ none) (Played tries events none)) (sym end) same)

-- where an event was answered busy at most as often as it is tried, one more answer may end the part
played_soon : (tries : ℕ) (event : Event) (events : List Event) (busy : List Entry) → AllByRecursion (IsBusyTo event) busy → length busy ≤ tries
    → (last : Entry) × Played tries (event ∷ events) (busy ++ last ∷ [])
played_soon tries event events busy again le =
    let Last : Entry → Type 0 = λ last. ((length busy < tries) × (last.event ≡ event) × (false ≡ false)) ⊎ ((length busy ≡ tries) × (last.event ≡ Abort (session_of event))) in
    let which : (length busy < tries) ⊎ (length busy ≡ tries) = grind arith in
    elim which as (λ _. (last : Entry) × Played tries (event ∷ events) (busy ++ last ∷ [])) [
      | inl lt ↦ let last : Entry = record { event = event; reply = Refused (Failed 1) } in
          (last, played_last tries event events busy last (record { again = again; last_is = inl (lt, refl, refl) }) refl)
      | inr all ↦ let last : Entry = record { event = Abort (session_of event); reply = Refused (Failed 1) } in
          (last, played_last tries event events busy last (record { again = again; last_is = inr (all, refl) }) refl)
    ]

module _ (tries : ℕ) (xs events : List Event) (same : xs ≡ events) (place : ℕ) (d : Event) (lt : place < length xs) (part : List Entry) (goes : Goes tries events place part) where
  -- what is left of the events, of which the first is at this place
  left : drop place events ≡ get_or xs place d ∷ drop (place + 1) events
  left = subst (λ l. drop place l ≡ get_or xs place d ∷ drop (place + 1) l) same (rw add-one (drop-cons xs place d lt))

  -- the same one place on
  pub goes_on : (busy : List Entry) (last : Entry) → Makes tries (get_or xs place d) busy last → ends last.reply ≡ false → Goes tries events (place + 1) (part ++ (busy ++ last ∷ []))
  goes_on busy last made on more rest = simp append_assoc (goes (busy ++ last ∷ more) (subst (λ l. Played tries l (busy ++ last ∷ more)) (sym left) (played_on tries (get_or xs place d) (drop (place + 1) events) busy last more made on rest)))

  -- the part ended here
  pub goes_to_end : (busy : List Entry) (last : Entry) → Makes tries (get_or xs place d) busy last → ends last.reply ≡ true → Played tries events (part ++ (busy ++ last ∷ []))
  goes_to_end busy last made end = goes (busy ++ last ∷ []) (subst (λ l. Played tries l (busy ++ last ∷ [])) (sym left) (played_last tries (get_or xs place d) (drop (place + 1) events) busy last made end))

  -- out of memory here
  pub goes_unfinished : (busy : List Entry) → AllByRecursion (IsBusyTo (get_or xs place d)) busy → length busy ≤ tries → IsUnfinished tries events (part ++ busy)
  goes_unfinished busy again le =
      let b = played_soon tries (get_or xs place d) (drop (place + 1) events) busy again le in
      (b.0, ([], simp (append_assoc, append-nil) (goes (busy ++ b.0 ∷ []) (subst (λ l. Played tries l (busy ++ b.0 ∷ [])) (sym left) b.1))))

-- where memory ran out there was one call more than answers
pub made_err : (end : Result (Unit {0}) AllocError) (part : List Entry) → IsErr end → calls_made end part ≡ length part + 1
made_err (Ok done) part is = cc
made_err (Err e) part is = refl

-- What a worker sends has at most `tries` entries for each event, and one more.
pub played_few : (tries : ℕ) (events : List Event) (part : List Entry) → Played tries events part → length part ≤ (tries + 1) * length events
played_few tries [] part is = omega (arith, ap length is)
played_few tries (event ∷ events) part (busy, last, rest, is, made, then) =
    let more : length rest ≤ (tries + 1) * length events =
    elim (ends last.reply) as (λ b. MatchBool b (rest ≡ []) (Played tries events rest) → length rest ≤ (tries + 1) * length events) [
      | true ↦ λ none. omega (arith, ap length none)
      | false ↦ λ p. played_few tries events rest p
    ] then in
    let few : length busy ≤ tries = elim made.last_is as (λ _. length busy ≤ tries) [ inl h ↦ omega (arith, h.0) | inr h ↦ omega (arith, h.0) ] in
    omega (arith, ap length is, length-append busy (last ∷ rest), mul-suc (tries + 1) (length events))

-- However it ends, a worker makes at most `tries` calls for each event, and one more.
pub asked_few : (tries : ℕ) (events : List Event) (end : Result (Unit {0}) AllocError) (part : List Entry) → MatchResult end (λ _. Played tries events part) (λ _. IsUnfinished tries events part)
    → calls_made end part ≤ (tries + 1) * length events
asked_few tries events (Ok done) part is = played_few tries events part is
asked_few tries events (Err e) part (next, (more, is)) =
    omega (arith, played_few tries events ((part ++ next ∷ []) ++ more) is, length-append (part ++ next ∷ []) more, length-append part (next ∷ []))
