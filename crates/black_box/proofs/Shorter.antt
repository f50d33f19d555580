-- The short form of the theorem follows from the long one.
use Rattle.std.proofs.Common.{◌≡◌, ◌≢◌, ◌⊎◌, inl, inr, ℕ, zero, suc, ◌-◌, ◌≤◌, List, [], ◌∷◌, ◌++◌, length, take, Option, refl, sym, ap, ◌∙◌, subst, arith, append-nil, append_assoc}
use Rattle.std.specs.List.{AllByRecursion, AllPairs, flat_map}
use Rattle.std.specs.Option.{option_to_list}
use Rattle.std.proofs.lemmas.Grind.{flat_map-append}
use Rattle.std.proofs.lemmas.List.{append_cancel_left, length-append, take-append-le}
use Rattle.graph_model.specs.declared.event.Event.{Event}
use Rattle.graph_model.specs.declared.event.Event.TheVariants.{Abort, Force}
use Rattle.graph_model.specs.declared.reply.Entry.{Entry}
use Rattle.graph_model.specs.Canon.{canon}
use Rattle.graph_model.specs.Graph.{Graph}
use Rattle.graph_model.specs.History.{sealed, commits}
use Rattle.graph_model.specs.Text.{canon_text, line}
use Rattle.graph_model.specs.Transaction.{Transaction, serial, serial_replies}
use Rattle.commit_order.proofs.PlaceLaws.{EachEntry-before}
use Rattle.script_text.specs.declared.line.Line.{Line}
use Rattle.script_text.specs.Line.{events}
use Rattle.heap_program.specs.declared.status.Status.{Status}
use Rattle.heap_program.specs.Play.{lines_text}
use Rattle.black_box.specs.Told.{EndsScript, Fits, TellsRun, text_of}
use Rattle.black_box.specs.Tale.{Tells, text_after}
use Rattle.black_box.proofs.NumberLaws.{begun_once, numbers_differ}
use Rattle.black_box.proofs.TaleLaws.{fits_told, tale_so_far, tale_certain, tale_commits, tale_replies}

-- an event that ends a script is an abort or a force
ends_as : (event : Event) → EndsScript event → ((s : ℕ) × (1 ≤ s) × (s ≤ 32) × (event ≡ Abort s)) ⊎ (event ≡ Force)
ends_as (Abort s) ends = inl (s, ends.0, ends.1, refl)
ends_as Force ends = inr refl
ends_as event ends = absurd ends

all_end : (ending : List Event) → AllByRecursion EndsScript ending → AllByRecursion (λ event. ((s : ℕ) × (1 ≤ s) × (s ≤ 32) × (event ≡ Abort s)) ⊎ (event ≡ Force)) ending
all_end [] ends = tt
all_end (event ∷ ending) ends = (ends_as event ends.0, all_end ending ends.1)

-- a list begins with its first elements
begins_with : (k : ℕ) (xs : List Entry) → (more : List Entry) × (take k xs ++ more ≡ xs)
begins_with zero xs = (xs, refl)
begins_with (suc k) [] = ([], refl)
begins_with (suc k) (x ∷ xs) = let rest = begins_with k xs in (rest.0, ap (λ l. x ∷ l) rest.1)

-- the lines of all but at most one entry begin with those of all but one
all_but_last : (history whole last : List Entry) (rest : List ℕ) → history ≡ whole ++ last → length last ≤ 1 → (more : List ℕ) × (lines_text whole ++ rest ≡ flat_map line (take (length history - 1) history) ++ more)
all_but_last history whole last rest is one =
    let k = length history - 1 in
    let long = ap length is in
    let sum = length-append whole last in
    let same : take k history ≡ take k whole = ap (take k) is ∙ take-append-le k whole last (omega (arith, long, sum, one)) in
    let parts = begins_with k whole in (
      lines_text parts.0 ++ rest,
      ap (λ l. flat_map line l ++ rest) (sym parts.1)
          ∙ ap (λ l. l ++ rest) (flat_map-append line (take k whole) parts.0)
          ∙ append_assoc (flat_map line (take k whole)) (flat_map line parts.0) rest
          ∙ ap (λ l. flat_map line l ++ (lines_text parts.0 ++ rest)) (sym same),
    )

-- So a run with a history has one in the short form.
pub tells : (begins left : Graph) (script : List Line) (result : Status) (before after : List ℕ) → TellsRun begins script result before after left
    → (written : List ℕ) × (after ≡ before ++ written) × Tells begins (events script) result written (text_of left)
tells begins left script result before after tale_of =
    let h = tale_of.history in
    let there = fits_told h tale_of.fits in
    let told = there.0 in
    let agree = there.2 in
    let is = agree.sealed in
    let all = tale_commits told h agree in
    let front = tale_of.front in
    let lines = tale_of.lines in
    let text = lines_text h ++ text_of (serial begins (sealed h)) in
    let behind : before ++ front.0 ≡ before ++ (lines_text lines.0 ++ lines.2) = sym front.3 ∙ lines.5 ∙ append_assoc before (lines_text lines.0) lines.2 in
    let but_last = all_but_last h lines.0 lines.1 lines.2 lines.3 lines.4 in (
      front.0,
      front.3,
      record {
        history = h;
        ending = tale_of.made.ending;
        left_out = tale_of.made.rest;
        made = tale_of.made.all;
        ends = all_end tale_of.made.ending tale_of.made.ends;
        told = told;
        fits = there.1;
        unwritten = front.1;
        front = ap (λ ts. flat_map line h ++ text_after begins ts) is ∙ front.2;
        lines = (but_last.0, append_cancel_left before front.0 (lines_text lines.0 ++ lines.2) behind ∙ but_last.1);
        fails = tale_of.fails;
        begun = λ first between rest s r n. begun_once begins h first between rest s r n tale_of.plain;
        numbers = subst (AllPairs (λ (t u : Transaction). t.number ≢ u.number)) (sym all) (numbers_differ begins h tale_of.plain tale_of.fails);
        replies = tale_replies told h agree ∙ tale_of.replies ∙ ap (serial_replies begins) (sym all);
        so_far = λ first rest now s own parts. tale_so_far begins first now s own (EachEntry-before Fits h first rest parts tale_of.fits) (tale_of.so_far first rest parts);
        count = tale_of.count;
        least = subst (λ n. n ≤ tale_of.count) (sym agree.acknowledged) tale_of.least;
        most = subst (λ (ts : List Transaction). tale_of.count ≤ length ts) (sym all) tale_of.most;
        graph = ap canon_text (tale_of.graph ∙ ap (λ ts. canon (serial begins (take tale_of.count ts))) (sym all));
        done = λ done.
            let ended = tale_of.done done in
            let whole : front.0 ≡ text = append_cancel_left before front.0 text (sym front.3 ∙ ended.3) in
            let none : commits h ≡ sealed h = ap (λ (o : Option Transaction). sealed h ++ option_to_list o) ended.1 ∙ append-nil (sealed h) in (
              ended.0,
              tale_certain told h agree ended.1,
              append_cancel_left text front.1 [] (ap (λ l. l ++ front.1) (sym whole) ∙ sym front.2 ∙ sym (append-nil text)),
              ended.2 ∙ ap (λ (ts : List Transaction). length ts) (sym (all ∙ none)),
            );
      },
    )
