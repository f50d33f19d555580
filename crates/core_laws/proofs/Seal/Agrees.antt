-- A transaction is sealed among others: what it made that has become reachable is promoted, and the core agrees with its history.
use Rattle.std.proofs.Common.{◌≡◌, ℕ, ◌+◌, List, [], ◌∷◌, ◌++◌, length, Option, Some, None, refl, sym, ap, ◌∙◌, subst, arith, length-append}
use Rattle.std.specs.Prelude.{option_to_list}
use Rattle.graph_model.specs.declared.event.Event.TheVariants.{Seal}
use Rattle.graph_model.specs.declared.reply.Reply.TheVariants.{Sealed}
use Rattle.graph_model.specs.Graph.{Graph}
use Rattle.graph_model.specs.Transaction.{Transaction, run, serial}
use Rattle.graph_model.specs.History.{Account, account_after}
use Rattle.graph_model.proofs.Runs.History.{serial-append}
use Rattle.graph_model.specs.Locking.{locks_of}
use Rattle.graph_model.specs.Plain.{view}
use Rattle.commit_order.specs.Heard.{Heard}
use Rattle.commit_order.proofs.OrderLaws.{IsOrdered}
use Rattle.log_records.specs.declared.Record.{Record}
use Rattle.log_machine.specs.Entries.{EachKeyed}
use Rattle.log_machine.proofs.MapLaws.{each_other}
use Rattle.graph_words.specs.Places.{Places}
use Rattle.graph_words.specs.Promotion.{promoted_places}
use Rattle.heap_model.specs.Core.{Core, log_start, all_records, area_in, ground, seal_moves, seal_need, seal_of, space_refusal}
use Rattle.heap_model.specs.CoreTold.{IsTold, IsNumbered}
use Rattle.core_laws.proofs.Step.Goes.{words_with, goes_on, number_below}
use Rattle.core_laws.proofs.Step.Granted.{HasRoom, reserved_told}
use Rattle.core_laws.proofs.Seal.Cases.{sealed_told, stays_beside}
use Rattle.core_laws.proofs.Seal.Told as seal
use Rattle.core_laws.proofs.Sessions.Actives.{each_session, ended_actives, sessions_with, writer_by}
use Rattle.core_laws.specs.Valid.{IsActive, IsWriter, IsWriting, Agrees}

module _ (a : Account) (c : Core) (h : Agrees a c) {numbers : List ℕ} {heard : Heard} (o : IsOrdered c.g0 numbers a heard) (s : ℕ) (t : Transaction) (e : a.active s ≡ Some t)
    (space : seal.HasSpace a c h o s t e) (n : ℕ) where
  -- what the history says then
  abbrev b : Account
  b = account_after a (record { event = Seal s; reply = Sealed n })

  -- the objects that stand in the space then
  abbrev later : Places
  later = c.places ++ seal.placed a c h o s t e

  -- and all records
  abbrev all : List Record
  all = all_records c ++ seal.records a c h o s t e

  -- and the words after them
  abbrev words : List ℕ
  words = words_with c (seal.records a c h o s t e)

  left : (view c.g0 a t).graph ≡ serial c.g0 b.sealed
  left = sym (ap (λ x. serial c.g0 (a.sealed ++ option_to_list x)) e ∙ serial-append c.g0 a.sealed t)

  count : c.before + length a.sealed + 1 ≡ c.before + length b.sealed
  count =
      let longer = length-append a.sealed (t ∷ []) in
      let same = ap (λ x. length (a.sealed ++ option_to_list x)) e in
      omega arith

  told : IsTold (log_start c) c.born later c.remaining (serial c.g0 b.sealed) (c.before + length b.sealed) all words (seal.last a c h o s t e)
  told =
      let Told : Graph → ℕ → Type 0 = λ g k. IsTold (log_start c) c.born later c.remaining g k all words (seal.last a c h o s t e) in
      subst (λ (k : ℕ). Told (serial c.g0 b.sealed) k) count (subst (λ (g : Graph). Told g (c.before + length a.sealed + 1)) left (sealed_told a c h o s t e space))

  -- those left whose writes may be taken back are active
  losers : EachKeyed (λ q us. IsActive b q) (seal.last a c h o s t e).undo
  losers = each_other (λ q us. IsActive b q) h.behind.undo t.number (λ q us some differs. ended_actives a b s t e refl q differs (h.losers q us some))

  -- and each of the others continues
  writers : (r : ℕ) → IsWriter later c.remaining c.g0 b (b.active r) words (seal.last a c h o s t e)
  writers r =
      let last = seal.last a c h o s t e in
      let P : ℕ → Option Transaction → Type 0 = λ q x. IsWriter later c.remaining c.g0 b x words last in
      each_session P a.active s None tt (λ q other. writer_by later c.remaining c.g0 b (a.active q) words last (λ u also.
      let stays = stays_beside a c h o s t e space q u (λ same. other (sym same)) also in
      subst (λ (g : Graph). IsWriting later c.remaining (run g u) u.number (locks_of g u) words last) left stays)) r

  goes : HasRoom c (seal.records a c h o s t e) b → Agrees b (record c { pending = c.pending ++ seal.records a c h o s t e; places = later })
  goes room =
      let below = (number_below a c s t e h).1 in
      let known = h.next_known in
      let kept = reserved_told c (seal.records a c h o s t e) b told in
      goes_on a c b (seal.records a c h o s t e) later c.remaining h (record {
        unfailed = h.unfailed;
        certain = h.certain;
        acknowledged = refl;
        in_sessions = sessions_with a s None (λ u is. absurd (cc is)) h.in_sessions;
        next_fits = h.next_fits;
        numbered = each_session (λ r x. IsNumbered (c.first + a.begun) x) a.active s None tt (λ r other. h.numbered r);
        later = option_to_list (a.active s);
        sealed = refl;
        behind = seal.last a c h o s t e;
        told = told;
        next_known = omega arith;
        losers = losers;
        writers = writers;
        room = omega arith;
      })

-- A transaction is sealed, and the others continue.
pub seal_agrees : (a : Account) (c : Core) {numbers : List ℕ} {heard : Heard} (o : IsOrdered c.g0 numbers a heard) (s : ℕ) (t : Transaction) (n : ℕ) (more : List Record) (placed : Places)
    → Agrees a c → a.active s ≡ Some t → more ≡ seal_of (ground c) t.number (view c.g0 a t)
    → placed ≡ promoted_places (area_in c.places (view c.g0 a t) t.number) (seal_moves (ground c) t.number (view c.g0 a t))
    → space_refusal (ground c).state (seal_need (ground c) t.number (view c.g0 a t)) ≡ None → HasRoom c more (account_after a (record { event = Seal s; reply = Sealed n }))
    → Agrees (account_after a (record { event = Seal s; reply = Sealed n })) (record c { pending = c.pending ++ more; places = c.places ++ placed })
seal_agrees a c o s t n more placed h e is there space room =
    let b : Account = account_after a (record { event = Seal s; reply = Sealed n }) in
    let records : more ≡ seal.records a c h o s t e = is ∙ seal.seal_is a c h o s t e in
    let places : placed ≡ seal.placed a c h o s t e = there ∙ seal.places_are a c h o s t e in
    let Behind : List Record → Places → Type 0 = λ rs ps. Agrees b (record c { pending = c.pending ++ rs; places = c.places ++ ps }) in
    let done = goes a c h o s t e space n (subst (λ (rs : List Record). HasRoom c rs b) records room) in
    subst (λ (rs : List Record). Behind rs placed) (sym records) (subst (λ (ps : Places). Behind (seal.records a c h o s t e) ps) (sym places) done)
