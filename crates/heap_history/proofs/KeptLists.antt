-- One more entry in a list of kept ones.
use Rattle.std.proofs.Common.{◌≡◌, ℕ, suc, List, [], ◌∷◌, ◌++◌, get_or, refl, sym, ◌∙◌, ap, subst, arith}
use Rattle.std.proofs.lemmas.List.Elements.{All-push}
use Rattle.std.proofs.lemmas.List.{map-append, get_or_append_left}
use Rattle.std.proofs.lemmas.Grind.{common_steps}
use Rattle.graph_model.specs.declared.reply.Entry.{Entry}
use Rattle.graph_model.specs.History.{acknowledged}
use Rattle.brief_entries.specs.declared.kept_entry.KeptEntry.{KeptEntry}
use Rattle.brief_entries.specs.declared.kept_entry.KeptEntry.TheVariants as kept
use Rattle.brief_entries.specs.Brief.{IsWithin, entry_of}
use Rattle.heap_history.specs.Kept.{AreWithin, Extends, IsKept, entries_in}

-- an entry that is kept within a list is kept within a longer one, and stands for the same there
still_within : (whole more : List Entry) (k : KeptEntry) → IsWithin whole k → IsWithin (whole ++ more) k
still_within whole more (kept.Wrote s h i v) within = within
still_within whole more (kept.Read s event v) h = h
still_within whole more (kept.Answered s event reply) h = h
still_within whole more (kept.Exhausted s event need free owed) h = h
still_within whole more (kept.LogFull s event used need reserved) h = h
still_within whole more (kept.Scanned s event page objects words) h = h
still_within whole more (kept.Whole place) h = grind (arith, common_steps)

still_same : (whole more : List Entry) (k : KeptEntry) → IsWithin whole k → entry_of (whole ++ more) k ≡ entry_of whole k
still_same whole more (kept.Wrote s h i v) within = refl
still_same whole more (kept.Read s event v) h = refl
still_same whole more (kept.Answered s event reply) h = refl
still_same whole more (kept.Exhausted s event need free owed) h = refl
still_same whole more (kept.LogFull s event used need reserved) h = refl
still_same whole more (kept.Scanned s event page objects words) h = refl
still_same whole more (kept.Whole place) h = get_or_append_left whole more _ place h

-- after the first, the others are kept within the list too
pub within_others : (whole : List Entry) (all : List KeptEntry) (first : KeptEntry) (others : List KeptEntry) → all ≡ first ∷ others → AreWithin whole all → AreWithin whole others
within_others whole all first others is h k d below =
    let both : AreWithin whole (first ∷ others) = subst (AreWithin whole) is h in
    both (suc k) d (omega arith)

entries_longer : (whole more : List Entry) (all : List KeptEntry) → AreWithin whole all → entries_in (whole ++ more) all ≡ entries_in whole all
entries_longer whole more [] h = refl
entries_longer whole more (k ∷ all) h =
    let others : AreWithin whole all = within_others whole (k ∷ all) k all refl h in
    ap (λ e. e ∷ entries_in (whole ++ more) all) (still_same whole more k (h 0 k (omega arith)))
    ∙ ap (λ l. entry_of whole k ∷ l) (entries_longer whole more all others)

within_longer : (whole more : List Entry) (all : List KeptEntry) → AreWithin whole all → AreWithin (whole ++ more) all
within_longer whole more all h k d below = still_within whole more (get_or all k d) (h k d below)

-- one more entry, kept within the list or a longer one
pub entries_more : (old new : List Entry) (all more : List KeptEntry) (k : KeptEntry) (e : Entry) → Extends old new → AreWithin old all → entry_of new k ≡ e → more ≡ all ++ k ∷ [] → entries_in new more ≡ entries_in old all ++ e ∷ []
entries_more old new all more k e extends h same is =
    ap (entries_in new) is
    ∙ map-append (entry_of new) all (k ∷ [])
    ∙ ap (λ l. l ++ entry_of new k ∷ []) (subst (λ l. entries_in l all ≡ entries_in old all) (sym extends.1) (entries_longer old extends.0 all h))
    ∙ ap (λ x. entries_in old all ++ x ∷ []) same

pub within_more : (old new : List Entry) (all more : List KeptEntry) (k : KeptEntry) → Extends old new → AreWithin old all → IsWithin new k → more ≡ all ++ k ∷ [] → AreWithin new more
within_more old new all more k extends h here is =
    let before : AreWithin new all = subst (λ l. AreWithin l all) (sym extends.1) (within_longer old extends.0 all h) in
    subst (AreWithin new) (sym is) (All-push (IsWithin new) all k before here)

pub kept_more : (old new : List Entry) (all more : List KeptEntry) (k : KeptEntry) (e : Entry) (before after : ℕ) → Extends old new → IsKept old all before → IsWithin new k → entry_of new k ≡ e → more ≡ all ++ k ∷ []
    → (before ≡ acknowledged (entries_in old all) → after ≡ acknowledged (entries_in old all ++ e ∷ [])) → IsKept new more after
kept_more old new all more k e before after extends h here same is told = record {
  within = within_more old new all more k extends h.within here is;
  told = told h.told ∙ ap acknowledged (sym (entries_more old new all more k e extends h.within same is));
}
