-- Bytes begin with the spelling of a record, or of none.
use Rattle.std.proofs.Common.{◌≡◌, inl, inr, ℕ, suc, ◌≤◌, List, [], ◌∷◌, ◌++◌, length, length-append, get_or, drop, refl, sym, ap, ◌∙◌, subst, arith}
use Rattle.std.specs.Int.{w16, w32, w64, to_le_bytes}
use Rattle.std.specs.List.{flat_map}
use Rattle.log_records.specs.declared.Record.{Record}
use Rattle.log_records.specs.declared.Record.TheVariants.{Update, Base, Fix, Undo, Commit, End, Copy, Scan, Flip, Collected}
use Rattle.log_records.specs.Copies.{word_bytes, write_bytes, copy_bytes}
use Rattle.log_records.specs.Record.{spelling, IsObjectCopy, IsWrite, IsRecord}
use Rattle.log_records.proofs.RecordLaws.{one_record, some_spelling}
use Rattle.image_laws.proofs.Bytes.{IsBytes, Test, Begins, IsReadable, Fits16, Fits32, AreGood, many_or_not}
use Rattle.image_laws.proofs.Walk.{same_or_not}
use Rattle.image_laws.proofs.Objects.{After16, After32, AfterWord, after_16, after_32, after_word, AWord, word_or_not, ANumber, number_or_not, ACopy, copy_shape_or_not, readable_write, readable_copy}

-- What follows the number of each kind.

abbrev AnUpdate : List ℕ → Type 0
AnUpdate bytes = After32 (λ t r. After32 (λ object r. After16 (λ field r. AfterWord (λ was r. AWord r) r) r) r) bytes

update_or_not : (bytes : List ℕ) → IsBytes bytes → Test (AnUpdate bytes)
update_or_not =
    after_32 (λ t r. After32 (λ object r. After16 (λ field r. AfterWord (λ was r. AWord r) r) r) r)
    (λ t. after_32 (λ object r. After16 (λ field r. AfterWord (λ was r. AWord r) r) r)
    (λ object. after_16 (λ field r. AfterWord (λ was r. AWord r) r) (λ field. after_word (λ was r. AWord r) (λ was. word_or_not))))

abbrev APut : List ℕ → Type 0
APut bytes = After32 (λ t r. After32 (λ object r. After16 (λ field r. AWord r) r) r) bytes

put_or_not : (bytes : List ℕ) → IsBytes bytes → Test (APut bytes)
put_or_not = after_32 (λ t r. After32 (λ object r. After16 (λ field r. AWord r) r) r) (λ t. after_32 (λ object r. After16 (λ field r. AWord r) r) (λ object. after_16 (λ field r. AWord r) (λ field. word_or_not)))

abbrev AScan : List ℕ → Type 0
AScan bytes = After32 (λ page r. After16 (λ n r. Begins (flat_map write_bytes) (AreGood write_bytes IsWrite n) r) r) bytes

scan_or_not : (bytes : List ℕ) → IsBytes bytes → Test (AScan bytes)
scan_or_not =
    after_32 (λ page r. After16 (λ n r. Begins (flat_map write_bytes) (AreGood write_bytes IsWrite n) r) r)
    (λ page. after_16 (λ n r. Begins (flat_map write_bytes) (AreGood write_bytes IsWrite n) r) (λ n. many_or_not write_bytes IsWrite readable_write n))

abbrev AFlip : List ℕ → Type 0
AFlip bytes = After32 (λ n r. Begins (flat_map copy_bytes) (AreGood copy_bytes IsObjectCopy n) r) bytes

flip_or_not : (bytes : List ℕ) → IsBytes bytes → Test (AFlip bytes)
flip_or_not = after_32 (λ n r. Begins (flat_map copy_bytes) (AreGood copy_bytes IsObjectCopy n) r) (λ n. many_or_not copy_bytes IsObjectCopy readable_copy n)

-- a record stands in front
abbrev pub ARecord : List ℕ → Type 0
ARecord bytes = Begins spelling IsRecord bytes

-- the number of its kind
abbrev kind_number : Record → ℕ
kind_number (Update t object field was word) = 1
kind_number (Base t address words) = 2
kind_number (Fix t object field word) = 3
kind_number (Undo t object field word) = 4
kind_number (Commit t) = 5
kind_number (End t) = 6
kind_number (Copy from to words) = 7
kind_number (Scan page writes) = 8
kind_number (Flip copies) = 9
kind_number Collected = 10

-- A kind of record: its number, and what follows it.
record IsKind (number : ℕ) (Shape : List ℕ → Type 0) : Type 0 where
  test : (bytes : List ℕ) → IsBytes bytes → Test (Shape bytes)
  make : (bytes : List ℕ) → Shape bytes → ARecord (number ∷ bytes)
  take : (bytes : List ℕ) (rec : Record) (rest : List ℕ) → IsRecord rec → number ∷ bytes ≡ spelling rec ++ rest → Shape bytes

update_of : (bytes : List ℕ) (rec : Record) (rest : List ℕ) → IsRecord rec → 1 ∷ bytes ≡ spelling rec ++ rest → AnUpdate bytes
update_of bytes (Update t object field was word) rest good here = record {
  what = t;
  rest = to_le_bytes w32 object ++ (to_le_bytes w16 field ++ (to_le_bytes w64 was ++ (to_le_bytes w64 word ++ rest)));
  good = good.t_fits;
  here = ap (λ (l : List ℕ). drop 1 l) here;
  more = record {
    what = object;
    rest = to_le_bytes w16 field ++ (to_le_bytes w64 was ++ (to_le_bytes w64 word ++ rest));
    good = good.object_fits;
    here = refl;
    more = record {
      what = field;
      rest = to_le_bytes w64 was ++ (to_le_bytes w64 word ++ rest);
      good = good.field_fits;
      here = refl;
      more = record { what = was; rest = to_le_bytes w64 word ++ rest; good = good.was_word; here = refl; more = record { what = word; rest = rest; good = good.new_word; here = refl } };
    };
  };
}
update_of bytes rec rest good here = absurd (omega (arith, ap (λ (l : List ℕ). get_or l 0 0) here))

an_update : IsKind 1 AnUpdate
an_update = record {
  test = update_or_not;
  make = λ bytes b. record {
    what = Update b.what b.more.what b.more.more.what b.more.more.more.what b.more.more.more.more.what;
    rest = b.more.more.more.more.rest;
    good = record { t_fits = b.good; object_fits = b.more.good; field_fits = b.more.more.good; was_word = b.more.more.more.good; new_word = b.more.more.more.more.good };
    here = ap (λ (l : List ℕ). 1 ∷ l) (b.here ∙ ap (λ (l : List ℕ). to_le_bytes w32 b.what ++ l)
        (b.more.here ∙ ap (λ (l : List ℕ). to_le_bytes w32 b.more.what ++ l)
        (b.more.more.here ∙ ap (λ (l : List ℕ). to_le_bytes w16 b.more.more.what ++ l)
        (b.more.more.more.here ∙ ap (λ (l : List ℕ). to_le_bytes w64 b.more.more.more.what ++ l) b.more.more.more.more.here))));
  };
  take = update_of;
}

base_of : (bytes : List ℕ) (rec : Record) (rest : List ℕ) → IsRecord rec → 2 ∷ bytes ≡ spelling rec ++ rest → ACopy bytes
base_of bytes (Base t address words) rest good here = record {
  what = t;
  rest = to_le_bytes w32 address ++ (word_bytes words ++ rest);
  good = good.t_fits;
  here = ap (λ (l : List ℕ). drop 1 l) here;
  more = record { what = address; rest = word_bytes words ++ rest; good = good.address_fits; here = refl; more = record { what = words; rest = rest; good = good.object; here = refl } };
}
base_of bytes rec rest good here = absurd (omega (arith, ap (λ (l : List ℕ). get_or l 0 0) here))

a_base : IsKind 2 ACopy
a_base = record {
  test = copy_shape_or_not;
  make = λ bytes b. record {
    what = Base b.what b.more.what b.more.more.what;
    rest = b.more.more.rest;
    good = record { t_fits = b.good; address_fits = b.more.good; object = b.more.more.good };
    here = ap (λ (l : List ℕ). 2 ∷ l) (b.here ∙ ap (λ (l : List ℕ). to_le_bytes w32 b.what ++ l) (b.more.here ∙ ap (λ (l : List ℕ). to_le_bytes w32 b.more.what ++ l) b.more.more.here));
  };
  take = base_of;
}

copy_of : (bytes : List ℕ) (rec : Record) (rest : List ℕ) → IsRecord rec → 7 ∷ bytes ≡ spelling rec ++ rest → ACopy bytes
copy_of bytes (Copy from to words) rest good here = record {
  what = from;
  rest = to_le_bytes w32 to ++ (word_bytes words ++ rest);
  good = good.from_fits;
  here = ap (λ (l : List ℕ). drop 1 l) here;
  more = record { what = to; rest = word_bytes words ++ rest; good = good.to_fits; here = refl; more = record { what = words; rest = rest; good = good.object; here = refl } };
}
copy_of bytes rec rest good here = absurd (omega (arith, ap (λ (l : List ℕ). get_or l 0 0) here))

a_copy : IsKind 7 ACopy
a_copy = record {
  test = copy_shape_or_not;
  make = λ bytes b. record {
    what = Copy b.what b.more.what b.more.more.what;
    rest = b.more.more.rest;
    good = record { from_fits = b.good; to_fits = b.more.good; object = b.more.more.good };
    here = ap (λ (l : List ℕ). 7 ∷ l) (b.here ∙ ap (λ (l : List ℕ). to_le_bytes w32 b.what ++ l) (b.more.here ∙ ap (λ (l : List ℕ). to_le_bytes w32 b.more.what ++ l) b.more.more.here));
  };
  take = copy_of;
}

fix_of : (bytes : List ℕ) (rec : Record) (rest : List ℕ) → IsRecord rec → 3 ∷ bytes ≡ spelling rec ++ rest → APut bytes
fix_of bytes (Fix t object field word) rest good here = record {
  what = t;
  rest = to_le_bytes w32 object ++ (to_le_bytes w16 field ++ (to_le_bytes w64 word ++ rest));
  good = good.t_fits;
  here = ap (λ (l : List ℕ). drop 1 l) here;
  more = record {
    what = object;
    rest = to_le_bytes w16 field ++ (to_le_bytes w64 word ++ rest);
    good = good.object_fits;
    here = refl;
    more = record { what = field; rest = to_le_bytes w64 word ++ rest; good = good.field_fits; here = refl; more = record { what = word; rest = rest; good = good.put_word; here = refl } };
  };
}
fix_of bytes rec rest good here = absurd (omega (arith, ap (λ (l : List ℕ). get_or l 0 0) here))

a_fix : IsKind 3 APut
a_fix = record {
  test = put_or_not;
  make = λ bytes b. record {
    what = Fix b.what b.more.what b.more.more.what b.more.more.more.what;
    rest = b.more.more.more.rest;
    good = record { t_fits = b.good; object_fits = b.more.good; field_fits = b.more.more.good; put_word = b.more.more.more.good };
    here = ap (λ (l : List ℕ). 3 ∷ l) (b.here ∙ ap (λ (l : List ℕ). to_le_bytes w32 b.what ++ l) (b.more.here ∙ ap (λ (l : List ℕ). to_le_bytes w32 b.more.what ++ l)
        (b.more.more.here ∙ ap (λ (l : List ℕ). to_le_bytes w16 b.more.more.what ++ l) b.more.more.more.here)));
  };
  take = fix_of;
}

undo_of : (bytes : List ℕ) (rec : Record) (rest : List ℕ) → IsRecord rec → 4 ∷ bytes ≡ spelling rec ++ rest → APut bytes
undo_of bytes (Undo t object field word) rest good here = record {
  what = t;
  rest = to_le_bytes w32 object ++ (to_le_bytes w16 field ++ (to_le_bytes w64 word ++ rest));
  good = good.t_fits;
  here = ap (λ (l : List ℕ). drop 1 l) here;
  more = record {
    what = object;
    rest = to_le_bytes w16 field ++ (to_le_bytes w64 word ++ rest);
    good = good.object_fits;
    here = refl;
    more = record { what = field; rest = to_le_bytes w64 word ++ rest; good = good.field_fits; here = refl; more = record { what = word; rest = rest; good = good.put_word; here = refl } };
  };
}
undo_of bytes rec rest good here = absurd (omega (arith, ap (λ (l : List ℕ). get_or l 0 0) here))

an_undo : IsKind 4 APut
an_undo = record {
  test = put_or_not;
  make = λ bytes b. record {
    what = Undo b.what b.more.what b.more.more.what b.more.more.more.what;
    rest = b.more.more.more.rest;
    good = record { t_fits = b.good; object_fits = b.more.good; field_fits = b.more.more.good; put_word = b.more.more.more.good };
    here = ap (λ (l : List ℕ). 4 ∷ l) (b.here ∙ ap (λ (l : List ℕ). to_le_bytes w32 b.what ++ l) (b.more.here ∙ ap (λ (l : List ℕ). to_le_bytes w32 b.more.what ++ l)
        (b.more.more.here ∙ ap (λ (l : List ℕ). to_le_bytes w16 b.more.more.what ++ l) b.more.more.more.here)));
  };
  take = undo_of;
}

commit_of : (bytes : List ℕ) (rec : Record) (rest : List ℕ) → IsRecord rec → 5 ∷ bytes ≡ spelling rec ++ rest → ANumber bytes
commit_of bytes (Commit t) rest good here = record { what = t; rest = rest; good = good; here = ap (λ (l : List ℕ). drop 1 l) here }
commit_of bytes rec rest good here = absurd (omega (arith, ap (λ (l : List ℕ). get_or l 0 0) here))

a_commit : IsKind 5 ANumber
a_commit = record {
  test = number_or_not;
  make = λ bytes b. record { what = Commit b.what; rest = b.rest; good = b.good; here = ap (λ (l : List ℕ). 5 ∷ l) b.here };
  take = commit_of;
}

end_of : (bytes : List ℕ) (rec : Record) (rest : List ℕ) → IsRecord rec → 6 ∷ bytes ≡ spelling rec ++ rest → ANumber bytes
end_of bytes (End t) rest good here = record { what = t; rest = rest; good = good; here = ap (λ (l : List ℕ). drop 1 l) here }
end_of bytes rec rest good here = absurd (omega (arith, ap (λ (l : List ℕ). get_or l 0 0) here))

an_end : IsKind 6 ANumber
an_end = record {
  test = number_or_not;
  make = λ bytes b. record { what = End b.what; rest = b.rest; good = b.good; here = ap (λ (l : List ℕ). 6 ∷ l) b.here };
  take = end_of;
}

scan_of : (bytes : List ℕ) (rec : Record) (rest : List ℕ) → IsRecord rec → 8 ∷ bytes ≡ spelling rec ++ rest → AScan bytes
scan_of bytes (Scan page writes) rest good here = record {
  what = page;
  rest = to_le_bytes w16 (length writes) ++ (flat_map write_bytes writes ++ rest);
  good = good.page_fits;
  here = ap (λ (l : List ℕ). drop 1 l) here;
  more = record { what = length writes; rest = flat_map write_bytes writes ++ rest; good = good.few; here = refl; more = record { what = writes; rest = rest; good = (refl, good.each); here = refl } };
}
scan_of bytes rec rest good here = absurd (omega (arith, ap (λ (l : List ℕ). get_or l 0 0) here))

a_scan : IsKind 8 AScan
a_scan = record {
  test = scan_or_not;
  make = λ bytes b.
      let writes = b.more.more.what in
      let count : b.more.what ≡ length writes = sym b.more.more.good.0 in
      record {
        what = Scan b.what writes;
        rest = b.more.more.rest;
        good = record { page_fits = b.good; few = subst Fits16 count b.more.good; each = b.more.more.good.1 };
        here = ap (λ (l : List ℕ). 8 ∷ l) (b.here ∙ ap (λ (l : List ℕ). to_le_bytes w32 b.what ++ l)
            (b.more.here ∙ ap (λ (n : ℕ). to_le_bytes w16 n ++ b.more.rest) count ∙ ap (λ (l : List ℕ). to_le_bytes w16 (length writes) ++ l) b.more.more.here));
      };
  take = scan_of;
}

flip_of : (bytes : List ℕ) (rec : Record) (rest : List ℕ) → IsRecord rec → 9 ∷ bytes ≡ spelling rec ++ rest → AFlip bytes
flip_of bytes (Flip copies) rest good here = record {
  what = length copies;
  rest = flat_map copy_bytes copies ++ rest;
  good = good.few;
  here = ap (λ (l : List ℕ). drop 1 l) here;
  more = record { what = copies; rest = rest; good = (refl, good.each); here = refl };
}
flip_of bytes rec rest good here = absurd (omega (arith, ap (λ (l : List ℕ). get_or l 0 0) here))

a_flip : IsKind 9 AFlip
a_flip = record {
  test = flip_or_not;
  make = λ bytes b.
      let copies = b.more.what in
      let count : b.what ≡ length copies = sym b.more.good.0 in
      record {
        what = Flip copies;
        rest = b.more.rest;
        good = record { few = subst Fits32 count b.good; each = b.more.good.1 };
        here = ap (λ (l : List ℕ). 9 ∷ l) (b.here ∙ ap (λ (n : ℕ). to_le_bytes w32 n ++ b.rest) count ∙ ap (λ (l : List ℕ). to_le_bytes w32 (length copies) ++ l) b.more.here);
      };
  take = flip_of;
}

a_collected : IsKind 10 (λ bytes. Unit {0})
a_collected = record {
  test = λ bytes fits. inl tt;
  make = λ bytes b. record { what = Collected; rest = bytes; good = tt; here = refl };
  take = λ bytes rec rest good here. tt;
}

-- bytes of such a kind begin with a record, or not; and those of another kind are looked at further
by_kind : (number : ℕ) (Shape : List ℕ → Type 0) → IsKind number Shape → (k : ℕ) (bytes : List ℕ) → IsBytes bytes → ((k ≡ number → ⊥) → Test (ARecord (k ∷ bytes))) → Test (ARecord (k ∷ bytes))
by_kind number Shape kind k bytes fits others = elim (same_or_not k number) [
  | inr other ↦ others other
  | inl same ↦ elim (kind.test bytes fits) [
    | inl shape ↦ inl (subst (λ (n : ℕ). ARecord (n ∷ bytes)) (sym same) (kind.make bytes shape))
    | inr none ↦ inr (λ b. none (kind.take bytes b.what b.rest b.good (ap (λ (n : ℕ). n ∷ bytes) (sym same) ∙ b.here)))
  ]
]

-- a record's first byte is the number of its kind
first_byte : (rec : Record) (rest : List ℕ) → get_or (spelling rec ++ rest) 0 0 ≡ kind_number rec
first_byte (Update t object field was word) rest = refl
first_byte (Base t address words) rest = refl
first_byte (Fix t object field word) rest = refl
first_byte (Undo t object field word) rest = refl
first_byte (Commit t) rest = refl
first_byte (End t) rest = refl
first_byte (Copy from to words) rest = refl
first_byte (Scan page writes) rest = refl
first_byte (Flip copies) rest = refl
first_byte Collected rest = refl

kinds_are_ten : (rec : Record) → (1 ≤ kind_number rec) × (kind_number rec ≤ 10)
kinds_are_ten (Update t object field was word) = (omega arith, omega arith)
kinds_are_ten (Base t address words) = (omega arith, omega arith)
kinds_are_ten (Fix t object field word) = (omega arith, omega arith)
kinds_are_ten (Undo t object field word) = (omega arith, omega arith)
kinds_are_ten (Commit t) = (omega arith, omega arith)
kinds_are_ten (End t) = (omega arith, omega arith)
kinds_are_ten (Copy from to words) = (omega arith, omega arith)
kinds_are_ten (Scan page writes) = (omega arith, omega arith)
kinds_are_ten (Flip copies) = (omega arith, omega arith)
kinds_are_ten Collected = (omega arith, omega arith)

-- bytes begin with the spelling of a record, or of none
record_or_not : (bytes : List ℕ) → IsBytes bytes → Test (ARecord bytes)
record_or_not [] fits = inr (λ b. let sizes = ap (λ (l : List ℕ). length l) b.here in omega (arith, sizes, length-append (spelling b.what) b.rest, some_spelling b.what))
record_or_not (k ∷ bytes) fits =
    let behind : IsBytes bytes = λ i. fits (suc i) in
    by_kind 1 AnUpdate an_update k bytes behind (λ n1.
    by_kind 2 ACopy a_base k bytes behind (λ n2.
    by_kind 3 APut a_fix k bytes behind (λ n3.
    by_kind 4 APut an_undo k bytes behind (λ n4.
    by_kind 5 ANumber a_commit k bytes behind (λ n5.
    by_kind 6 ANumber an_end k bytes behind (λ n6.
    by_kind 7 ACopy a_copy k bytes behind (λ n7.
    by_kind 8 AScan a_scan k bytes behind (λ n8.
    by_kind 9 AFlip a_flip k bytes behind (λ n9.
    by_kind 10 (λ bytes. Unit {0}) a_collected k bytes behind (λ n10. inr (λ b.
    let is : k ≡ kind_number b.what = ap (λ (l : List ℕ). get_or l 0 0) b.here ∙ first_byte b.what b.rest in
    let ten = kinds_are_ten b.what in
    omega (arith, is, ten.0, ten.1, n1, n2, n3, n4, n5, n6, n7, n8, n9, n10))))))))))))

pub readable_record : IsReadable spelling IsRecord
readable_record = record { one = λ a b more rest good good' same. one_record a b more rest good good' same; read = record_or_not }
