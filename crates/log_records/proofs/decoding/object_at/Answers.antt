use Rattle.std.proofs.Common.{◌≡◌, ◌∙◌, ℕ, ◌+◌, ◌*◌, List, drop, ap, refl, sym, subst}
use Rattle.std.specs.List.{AllByRecursion}
use Rattle.std.proofs.lemmas.Bool.{false≢true}
use Rattle.std.proofs.lemmas.List.{take_rest}
use Rattle.heap_words.specs.Word.{IsFieldWord}
use Rattle.log_records.proofs.Words.{object_counts, object_read, object_once, object_fields}
use Rattle.log_records.proofs.decoding.object_at.Goals as goal

pub returns-in_default-clause-only : goal.returns-in_default-clause-only
returns-in_default-clause-only c words rest good is =
    let counts = object_counts c.args.bytes.now words rest good is in
    c.in_default.not-Some (2 + counts.n) (c.word_count.ensures.only counts.n counts.few counts.large counts.header_is)

pub returns-then-are_field_words-clause-found : goal.returns-then-are_field_words-clause-found
returns-then-are_field_words-clause-found c =
    let found = c.in-Some.ensures.found in
    let read = c.in_ok-words.ensures in
    let fields = subst (λ (l : List ℕ). AllByRecursion IsFieldWord l) (take_rest c.deref.result.now 2 ∙ ap (λ (l : List ℕ). drop 2 l) c.deref.ensures.value) (c.if-are_field_words.ensures.0 refl) in
    (object_read c.args.bytes.now c.in_ok-words.words.items _ found.0 found.1 (read.count ∙ found.2) found.3 read.read read.fit fields, (drop (8 * c.in-Some.count) c.args.bytes.now, read.read))

pub returns-then-are_field_words-clause-only : goal.returns-then-are_field_words-clause-only
returns-then-are_field_words-clause-only c words rest good is =
    let counts = object_counts c.args.bytes.now words rest good is in
    let read = c.in_ok-words.ensures in
    let count : 2 + counts.n ≡ c.in-Some.count = cc (c.word_count.ensures.only counts.n counts.few counts.large counts.header_is, c.in-Some.is) in
    object_once c.args.bytes.now words c.in_ok-words.words.items rest _ c.in-Some.count good is (counts.size ∙ count) read.count read.fit read.read

pub returns-else-are_field_words-clause-only : goal.returns-else-are_field_words-clause-only
returns-else-are_field_words-clause-only c words rest good is =
    let counts = object_counts c.args.bytes.now words rest good is in
    let read = c.in_ok-words.ensures in
    let count : 2 + counts.n ≡ c.in-Some.count = cc (c.word_count.ensures.only counts.n counts.few counts.large counts.header_is, c.in-Some.is) in
    let once = object_once c.args.bytes.now words c.in_ok-words.words.items rest _ c.in-Some.count good is (counts.size ∙ count) read.count read.fit read.read in
    let same = take_rest c.deref.result.now 2 ∙ ap (λ (l : List ℕ). drop 2 l) (c.deref.ensures.value ∙ once) in
    absurd (false≢true (c.if-are_field_words.ensures.1 (subst (λ (l : List ℕ). AllByRecursion IsFieldWord l) (sym same) (object_fields words good))))
