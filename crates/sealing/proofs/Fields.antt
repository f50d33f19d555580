-- The fields that writes wrote, with those of one more write.
use Rattle.std.proofs.Common.{◌≡◌, zero, suc, ◌⊎◌, inl, inr, List, [], ◌∷◌, refl, sym, ap, ◌∙◌, subst, arith}
use Rattle.std.specs.Prelude.{Contains}
use Rattle.std.specs.List.Sorted.{IsStrictlySortedBy}
use Rattle.log_machine.specs.declared.UndoEntry.{UndoEntry}
use Rattle.graph_words.specs.Stands.{IsWritten}
use Rattle.graph_words.specs.Promotion.{Field, field_cmp, field_of, written_fields}
use Rattle.std.specs.BTreeSet.{insert_key}
use Rattle.sealing.proofs.Inserted.{inserted_from, inserted_there, inserted_keeps}
use Rattle.graph_words.proofs.Area.Fields.{field_cmp_told, written_fields_one, written_from_field, field_from_written}

-- what some of these writes wrote, they and one more wrote
pub written_rest : (u : UndoEntry) (us : List UndoEntry) (f : Field) → IsWritten us f.0 f.1 → IsWritten (u ∷ us) f.0 f.1
written_rest u us f (k, v, within, is, same) = (suc k, v, omega arith, is, same)

-- an ascending list of the fields of the writes before and of this one is that of all of them
pub written_more : (u : UndoEntry) (us : List UndoEntry) (fs : List Field) → IsStrictlySortedBy field_cmp fs
    → ((f : Field) → Contains fs f → (f ≡ field_of u) ⊎ Contains (written_fields us) f) → Contains fs (field_of u) → ((f : Field) → Contains (written_fields us) f → Contains fs f)
    → fs ≡ written_fields (u ∷ us)
written_more u us fs up from own before = written_fields_one (u ∷ us) fs up to back
  where
    to : (f : Field) → Contains fs f → IsWritten (u ∷ us) f.0 f.1
    to f has = elim (from f has) [
      | inl is ↦ (0, u, omega arith, refl, (ap (λ (x : Field). x.0) (sym is), ap (λ (x : Field). x.1) (sym is)))
      | inr there ↦ written_rest u us f (written_from_field us f there)
    ]

    back : (f : Field) → IsWritten (u ∷ us) f.0 f.1 → Contains fs f
    back f (zero, v, within, is, same) =
        let one : field_of u ≡ f = ap field_of is ∙ ap (λ n. (n, v.field)) same.0 ∙ ap (λ n. (f.0, n)) same.1 in
        subst (λ (x : Field). Contains fs x) one own
    back f (suc k, v, within, is, same) = before f (field_from_written us f.0 f.1 (k, v, omega arith, is, same))

empty : (fs : List Field) → ((f : Field) → Contains fs f → ⊥) → fs ≡ []
empty [] none = refl
empty (f ∷ fs) none = absurd (none f (0, omega arith, refl))

-- no writes, no fields
pub written_none : written_fields [] ≡ []
written_none = empty (written_fields []) (λ f has. nothing f (written_from_field [] f has))
  where
    nothing : (f : Field) → IsWritten [] f.0 f.1 → ⊥
    nothing f (k, u, within, is, same) = omega arith

-- a set of the fields of some writes has those of one more write once its field is put in
pub written_inserted : (u : UndoEntry) (us : List UndoEntry) (fs : List Field) → fs ≡ insert_key field_cmp (written_fields us) (field_of u) → IsStrictlySortedBy field_cmp fs → fs ≡ written_fields (u ∷ us)
written_inserted u us fs is up = written_more u us fs up from own before
  where
    from : (f : Field) → Contains fs f → (f ≡ field_of u) ⊎ Contains (written_fields us) f
    from f has = elim (inserted_from field_cmp (written_fields us) (field_of u) f (subst (λ (xs : List Field). Contains xs f) is has)) [ inl old ↦ inr old | inr new ↦ inl new ]

    own : Contains fs (field_of u)
    own = subst (λ (xs : List Field). Contains xs (field_of u)) (sym is) (inserted_there field_cmp field_cmp_told (written_fields us) (field_of u))

    before : (f : Field) → Contains (written_fields us) f → Contains fs f
    before f has = subst (λ (xs : List Field). Contains xs f) (sym is) (inserted_keeps field_cmp (written_fields us) (field_of u) f has)
