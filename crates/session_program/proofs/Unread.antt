-- The lines that are left after those that were taken.
use Rattle.std.proofs.Common.{◌≡◌, ◌⊎◌, inl, inr, ℕ, ◌<◌, Bool, false, true, List, [], ◌∷◌, ◌++◌, length, map, Option, Some, None, refl, sym, ap, ◌∙◌, subst, arith, append_assoc, length-append}
use Rattle.std.specs.Prelude.{IsTrue, IsFalse}
use Rattle.std.proofs.lemmas.List.{append-nil, map-append}
use Rattle.std.proofs.lemmas.Bool.{lt-ltb, le-ltb, ne_eqb}
use Rattle.script_text.specs.Script.{lines}
use Rattle.line_reader.specs.Taking.{IsWithinLine, IsCutAt, IsFirstLine, EndsTooLong, PassesPart}
use Rattle.session_program.specs.Lines.{as_taken, reopen_line}
use Rattle.session_program.specs.Session.{IsPart}

-- bytes without a newline, before a newline, are the first line
cut_line : (text rest : List ℕ) → IsWithinLine text → lines (text ++ 10 ∷ rest) ≡ text ∷ lines rest
cut_line [] rest within = refl
cut_line (b ∷ text) rest within = rw (ne_eqb b 10 within.0, cut_line text rest within.1) refl

-- so they are at the end
last_line : (text : List ℕ) → IsWithinLine text → 0 < length text → lines text ≡ text ∷ []
last_line [] within some = absurd (omega arith)
last_line (b ∷ []) within some = rw (ne_eqb b 10 within.0) refl
last_line (b ∷ c ∷ text) within some = rw (ne_eqb b 10 within.0, last_line (c ∷ text) within.1 (omega arith)) refl

first_line : (text stream rest : List ℕ) → IsCutAt text stream rest → 0 < length stream → lines stream ≡ text ∷ lines rest
first_line text stream rest cut some = elim cut.parts [
  | inl ends ↦ ap lines ends ∙ cut_line text rest cut.within
  | inr last ↦ ap lines last.0 ∙ last_line text cut.within (subst (λ (l : List ℕ). 0 < length l) last.0 some) ∙ ap (λ (l : List ℕ). text ∷ lines l) (sym last.1)
]

pub within_both : (front text : List ℕ) → IsWithinLine front → IsWithinLine text → IsWithinLine (front ++ text)
within_both [] text first second = second
within_both (b ∷ front) text first second = (first.0, within_both front text first.1 second)

-- More of a line stands before what is cut.
cut_behind : (front text stream rest : List ℕ) → IsWithinLine front → IsCutAt text stream rest → IsCutAt (front ++ text) (front ++ stream) rest
cut_behind front text stream rest within cut = record {
  within = within_both front text within cut.within;
  parts = elim cut.parts [
    | inl ends ↦ inl (ap (λ (l : List ℕ). front ++ l) ends ∙ sym (append_assoc front text (10 ∷ rest)))
    | inr last ↦ inr (ap (λ (l : List ℕ). front ++ l) last.0, last.1)
  ];
}

-- More can be read after what was taken, if more is left: the lines of both are those of each.
abbrev IsEnded : List ℕ → List ℕ → Type 0
IsEnded taken left = 0 < length left → (more : List ℕ) → lines (taken ++ more) ≡ lines taken ++ lines more

behind_newline : (taken text more : List ℕ) → (taken ++ (text ++ 10 ∷ [])) ++ more ≡ taken ++ (text ++ 10 ∷ more)
behind_newline taken text more = append_assoc taken (text ++ 10 ∷ []) more ∙ ap (λ (l : List ℕ). taken ++ l) (append_assoc text (10 ∷ []) more)

behind_part : (front stream text rest : List ℕ) → stream ≡ text ++ rest → front ++ stream ≡ (front ++ text) ++ rest
behind_part front stream text rest parts = ap (λ (l : List ℕ). front ++ l) parts ∙ sym (append_assoc front text rest)

-- A line more was taken.
record CutsLine (taken text stream rest : List ℕ) : Type 0 where
  pub now : List ℕ
  pub parts : taken ++ stream ≡ now ++ rest
  pub lines_now : lines now ≡ lines taken ++ text ∷ []
  pub ended : IsEnded now rest

cuts_line : (taken text stream rest : List ℕ) → IsCutAt text stream rest → 0 < length stream → IsEnded taken stream → CutsLine taken text stream rest
cuts_line taken text stream rest cut some ended = elim cut.parts [
  | inl ends ↦
      let lines_now : lines (taken ++ (text ++ 10 ∷ [])) ≡ lines taken ++ text ∷ [] = ended some (text ++ 10 ∷ []) ∙ ap (λ (l : List (List ℕ)). lines taken ++ l) (cut_line text [] cut.within) in
      record {
        now = taken ++ (text ++ 10 ∷ []);
        parts = ap (λ (l : List ℕ). taken ++ l) ends ∙ sym (behind_newline taken text rest);
        lines_now = lines_now;
        ended = λ _ more. ap lines (behind_newline taken text more) ∙ ended some (text ++ 10 ∷ more) ∙ ap (λ (l : List (List ℕ)). lines taken ++ l) (cut_line text more cut.within)
            ∙ sym (append_assoc (lines taken) (text ∷ []) (lines more)) ∙ ap (λ (l : List (List ℕ)). l ++ lines more) (sym lines_now);
      }
  | inr last ↦ record {
    now = taken ++ text;
    parts = ap (λ (l : List ℕ). taken ++ l) last.0 ∙ sym (append-nil (taken ++ text)) ∙ ap (λ (l : List ℕ). (taken ++ text) ++ l) (sym last.1);
    lines_now = ended some text ∙ ap (λ (l : List (List ℕ)). lines taken ++ l) (last_line text cut.within (subst (λ (l : List ℕ). 0 < length l) last.0 some));
    ended = λ left more. absurd (omega (arith, subst (λ (l : List ℕ). 0 < length l) last.1 left));
  }
]

-- The lines of an input: these were taken, and then those of the stream are left, of whose first one a front may be gone.
pub record Unread (left : List ℕ) (texts : List (Option (List ℕ))) (passing : Bool) (stream : List ℕ) : Type 0 where
  pub taken : List ℕ
  pub front : List ℕ
  pub parts : left ≡ taken ++ (front ++ stream)
  pub answered : map as_taken (lines taken) ≡ texts
  pub ended : IsEnded taken (front ++ stream)
  pub within : IsWithinLine front
  pub none : IsFalse passing → front ≡ []
  pub long : IsTrue passing → 1048576 < length front
  pub left_lines : map as_taken (lines left) ≡ texts ++ map as_taken (lines (front ++ stream))

-- nothing was taken
pub unread_all : (left : List ℕ) (passing : Bool) → IsFalse passing → Unread left [] passing left
unread_all left true fresh = absurd (cc fresh)
unread_all left false fresh = record { taken = []; front = []; parts = refl; answered = refl; ended = λ _ more. refl; within = tt; none = λ t. refl; long = λ never. cc; left_lines = refl }

one_more : (texts : List (Option (List ℕ))) (text : Option (List ℕ)) (more whole : List (Option (List ℕ))) → whole ≡ texts ++ text ∷ more → whole ≡ (texts ++ text ∷ []) ++ more
one_more texts text more whole is = is ∙ sym (append_assoc texts (text ∷ []) more)

answered_more : (texts : List (Option (List ℕ))) (taken now : List ℕ) (text : List ℕ) (line : Option (List ℕ)) → map as_taken (lines taken) ≡ texts → as_taken text ≡ line → lines now ≡ lines taken ++ text ∷ [] → map as_taken (lines now) ≡ texts ++ line ∷ []
answered_more texts taken now text line before is more = ap (λ (l : List (List ℕ)). map as_taken l) more ∙ map-append as_taken (lines taken) (text ∷ []) ∙ ap (λ (l : List (Option (List ℕ))). l ++ as_taken text ∷ []) before ∙ ap (λ (t : Option (List ℕ)). texts ++ t ∷ []) is

module _ (left : List ℕ) (texts : List (Option (List ℕ))) (passing passing' : Bool) (stream rest : List ℕ) (unread : Unread left texts passing stream) where
  -- a line was taken
  pub unread_line : (text : List ℕ) → IsFalse passing → IsFalse passing' → IsFirstLine text stream rest → Unread left (texts ++ Some text ∷ []) passing' rest
  unread_line text fresh done first =
      let taken : as_taken text ≡ Some text = rw (le-ltb 1048576 (length text) first.short) refl in
      let all : lines (unread.front ++ stream) ≡ text ∷ lines rest = ap (λ (l : List ℕ). lines (l ++ stream)) (unread.none fresh) ∙ first_line text stream rest first.cut first.some in
      let whole : unread.front ++ stream ≡ stream = ap (λ (l : List ℕ). l ++ stream) (unread.none fresh) in
      let cut = cuts_line unread.taken text stream rest first.cut first.some (subst (IsEnded unread.taken) whole unread.ended) in
      record {
        taken = cut.now;
        front = [];
        parts = unread.parts ∙ ap (λ (l : List ℕ). unread.taken ++ l) whole ∙ cut.parts;
        answered = answered_more texts unread.taken cut.now text (Some text) unread.answered taken cut.lines_now;
        ended = cut.ended;
        within = tt;
        none = λ t. refl;
        long = λ never. cc;
        left_lines = one_more texts (Some text) (map as_taken (lines rest)) (map as_taken (lines left))
            (unread.left_lines ∙ ap (λ (l : List (List ℕ)). texts ++ map as_taken l) all ∙ ap (λ (t : Option (List ℕ)). texts ++ t ∷ map as_taken (lines rest)) taken);
      }

  longer : (text : List ℕ) → IsTrue passing ⊎ (1048576 < length text) → 1048576 < length (unread.front ++ text)
  longer text (inl is) = omega (arith, unread.long is, length-append unread.front text)
  longer text (inr is) = omega (arith, is, length-append unread.front text)

  -- one that is too long came to its end
  pub unread_long : IsFalse passing' → EndsTooLong passing stream rest → Unread left (texts ++ None ∷ []) passing' rest
  unread_long done ends =
      let text = unread.front ++ ends.text in
      let long = longer ends.text ends.long in
      let taken : as_taken text ≡ None = rw (lt-ltb 1048576 (length text) long) refl in
      let cut = cut_behind unread.front ends.text stream rest unread.within ends.cut in
      let some : 0 < length (unread.front ++ stream) = elim cut.parts [
        | inl is ↦ omega (arith, ap (λ (l : List ℕ). length l) is, length-append text (10 ∷ rest))
        | inr is ↦ omega (arith, ap (λ (l : List ℕ). length l) is.0, long)
      ] in
      let all = first_line text (unread.front ++ stream) rest cut some in
      let more = cuts_line unread.taken text (unread.front ++ stream) rest cut some unread.ended in
      record {
        taken = more.now;
        front = [];
        parts = unread.parts ∙ more.parts;
        answered = answered_more texts unread.taken more.now text None unread.answered taken more.lines_now;
        ended = more.ended;
        within = tt;
        none = λ t. refl;
        long = λ never. cc;
        left_lines = one_more texts None (map as_taken (lines rest)) (map as_taken (lines left))
            (unread.left_lines ∙ ap (λ (l : List (List ℕ)). texts ++ map as_taken l) all ∙ ap (λ (t : Option (List ℕ)). texts ++ t ∷ map as_taken (lines rest)) taken);
      }

  -- a part of it went
  pub unread_part : IsTrue passing' → PassesPart stream rest → Unread left texts passing' rest
  unread_part on part = let same = behind_part unread.front stream part.text rest part.parts in record {
    taken = unread.taken;
    front = unread.front ++ part.text;
    parts = unread.parts ∙ ap (λ (l : List ℕ). unread.taken ++ l) same;
    answered = unread.answered;
    ended = subst (IsEnded unread.taken) same unread.ended;
    within = within_both unread.front part.text unread.within part.within;
    none = λ t. cc;
    long = λ t. omega (arith, part.long, length-append unread.front part.text);
    left_lines = unread.left_lines ∙ ap (λ (l : List ℕ). texts ++ map as_taken (lines l)) same;
  }

  -- a line `reopen` is the next one
  pub unread_cut : IsFalse passing → IsFirstLine reopen_line stream rest → IsPart unread.taken left rest
  unread_cut fresh first =
      let whole : unread.front ++ stream ≡ stream = ap (λ (l : List ℕ). l ++ stream) (unread.none fresh) in
      let parts : left ≡ unread.taken ++ stream = unread.parts ∙ ap (λ (l : List ℕ). unread.taken ++ l) whole in
      let ended : IsEnded unread.taken stream = subst (IsEnded unread.taken) whole unread.ended in
      record {
        behind = stream;
        parts = parts;
        cut = first.cut;
        are = ap lines parts ∙ ended first.some stream ∙ ap (λ (l : List (List ℕ)). lines unread.taken ++ l) (first_line reopen_line stream rest first.cut first.some);
      }

  -- no line is left
  pub unread_none : IsFalse passing → stream ≡ [] → map as_taken (lines left) ≡ texts
  unread_none fresh end =
      let all : unread.front ++ stream ≡ [] = ap (λ (l : List ℕ). l ++ stream) (unread.none fresh) ∙ end in
      unread.left_lines ∙ ap (λ (l : List ℕ). texts ++ map as_taken (lines l)) all ∙ append-nil texts
