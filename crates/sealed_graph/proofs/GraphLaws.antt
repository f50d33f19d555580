-- The graph of the objects in a map: what it has at a name, and where one object of the map is written.
use Rattle.std.proofs.Common.{◌≡◌, ℕ, zero, suc, Bool, true, false, cond, List, [], ◌∷◌, length, map, Option, Some, None, Result, Ok, Err, OnOk, Less, refl, sym, ap, ◌∙◌, arith}
use Rattle.std.specs.Prelude.{unwrap_or, slice_set}
use Rattle.std.specs.Cmp.{eq_by_cmp_equiv}
use Rattle.std.specs.Global.{Vec}
use Rattle.std.specs.List.{AllByRecursion, AllZip}
use Rattle.std.specs.List.Sorted.{IsStrictlySortedBy}
use Rattle.std.specs.Map.{lookup, keys_of}
use Rattle.std.specs.Option.{option_map}
use Rattle.std.specs.Ordering.{eq_by_cmp}
use Rattle.std.specs.BTreeMap.{is_at}
use Rattle.std.specs.FinMap.{empty, entries, find, from_entries, get, insert, keys, len, put, entries-insert, get-insert, get-from_entries, len-empty, len-entries, same_map}
use Rattle.std.specs.FinMap.Entries.{by_order}
use Rattle.std.proofs.lemmas.List.{length-map}
use Rattle.graph_model.specs.declared.id.Id.{Id}
use Rattle.graph_model.specs.declared.val.Val.{Val}
use Rattle.graph_model.specs.Graph.{Graph, id_cmp, with_field}
use Rattle.graph_model.proofs.Whole.Graph.{id_cmp_total, id_cmp-IsAntisymmetric}
use Rattle.sealed_graph.specs.Objects.{row_of, graph_of}

abbrev items_of : Vec Val → List Val
items_of values = values.items

abbrev pub at : Id → List (Id × Vec Val) → Option (Vec Val)
at id objects = lookup (is_at (id_cmp id)) objects

abbrev pub fields_at : Option (Vec Val) → Option (List Val)
fields_at o = option_map items_of o

chosen : (b : Bool) (values : Vec Val) (o : Option (Vec Val)) → cond b (Some values.items) (fields_at o) ≡ fields_at (cond b (Some values) o)
chosen true values o = refl
chosen false values o = refl

find-rows : (id : Id) (objects : List (Id × Vec Val)) → find id_cmp id (map row_of objects) ≡ fields_at (at id objects)
find-rows id [] = refl
find-rows id (object ∷ objects) =
    ap (cond (eq_by_cmp id_cmp id object.0) (Some object.1.items)) (find-rows id objects) ∙ chosen (eq_by_cmp id_cmp id object.0) object.1 (at id objects)

-- what the graph has at a name is what the map has there
pub get-graph_of : (objects : List (Id × Vec Val)) (id : Id) → get (graph_of objects) id ≡ fields_at (at id objects)
get-graph_of objects id = get-from_entries id_cmp_total (map row_of objects) id ∙ find-rows id objects

-- the same where the graph is named
pub get-found : (objects : List (Id × Vec Val)) (g : Graph) (id : Id) (o : Option (Vec Val)) → graph_of objects ≡ g → o ≡ at id objects → fields_at o ≡ get g id
get-found objects g id o is found = ap fields_at found ∙ sym (get-graph_of objects id) ∙ ap (λ h. get h id) is

-- where the map has other fields at one name and else what it had, so has the graph
pub graph_of-written : (old new : List (Id × Vec Val)) (g : Graph) (id : Id) (values : Vec Val) (vs : List Val)
    → graph_of old ≡ g → ((q : Id) → at q new ≡ cond (is_at (id_cmp id) q) (Some values) (at q old)) → values.items ≡ vs → graph_of new ≡ insert g id vs
graph_of-written old new g id values vs is changes are =
    same_map id_cmp_total id_cmp-IsAntisymmetric (graph_of new) (insert g id vs) (λ q.
    get-graph_of new q
    ∙ ap fields_at (changes q)
    ∙ sym (chosen (eq_by_cmp id_cmp id q) values (at q old))
    ∙ ap (λ b. cond b (Some values.items) (fields_at (at q old))) ((eq_by_cmp_equiv id_cmp_total).symm id q)
    ∙ ap (λ o. cond (eq_by_cmp id_cmp q id) (Some values.items) o) (get-found old g q (at q old) is refl)
    ∙ ap (λ us. cond (eq_by_cmp id_cmp q id) (Some us) (get g q)) are
    ∙ sym (get-insert id_cmp_total g id vs q))

in_place : (id : Id) (values : List Val) (objects : List (Id × Vec Val)) → AllByRecursion (λ other. id_cmp id other ≡ Less) (keys_of objects) → put id_cmp id values (map row_of objects) ≡ (id, values) ∷ map row_of objects
in_place id values [] below = refl
in_place id values (object ∷ objects) below =
    ap (λ r. by_order r ((id, values) ∷ map row_of (object ∷ objects)) ((object.0, values) ∷ map row_of objects) (row_of object ∷ put id_cmp id values (map row_of objects))) below.0

no_length : (rows : List (Id × List Val)) → length rows ≡ 0 → rows ≡ []
no_length [] none = refl
no_length (row ∷ rows) none = absurd (omega arith)

-- a map whose names ascend has the objects of the graph in their order
pub entries-graph_of : (objects : List (Id × Vec Val)) → IsStrictlySortedBy id_cmp (keys_of objects) → entries (graph_of objects) ≡ map row_of objects
unfolding IsStrictlySortedBy
entries-graph_of [] sorted = no_length (entries (empty {X = List Val} {R = id_cmp})) (sym (len-entries (empty {X = List Val} {R = id_cmp})) ∙ len-empty id_cmp (List Val))
entries-graph_of (object ∷ objects) sorted =
    entries-insert id_cmp_total (graph_of objects) object.0 object.1.items
    ∙ ap (put id_cmp object.0 object.1.items) (entries-graph_of objects sorted.1)
    ∙ in_place object.0 object.1.items objects sorted.0

-- as many
pub len-graph_of : (objects : List (Id × Vec Val)) → IsStrictlySortedBy id_cmp (keys_of objects) → len (graph_of objects) ≡ length objects
len-graph_of objects sorted = len-entries (graph_of objects) ∙ ap length (entries-graph_of objects sorted) ∙ length-map objects row_of

names-rows : (objects : List (Id × Vec Val)) → map (λ (row : Id × List Val). row.0) (map row_of objects) ≡ keys_of objects
names-rows [] = refl
names-rows (object ∷ objects) = ap (λ ids. object.0 ∷ ids) (names-rows objects)

-- of these names
pub keys-graph_of : (objects : List (Id × Vec Val)) → IsStrictlySortedBy id_cmp (keys_of objects) → keys (graph_of objects) ≡ keys_of objects
keys-graph_of objects sorted = ap (map (λ (row : Id × List Val). row.0)) (entries-graph_of objects sorted) ∙ names-rows objects

-- maps whose objects have the same names and fields, one by one, have one graph
same_rows : (C : Id → Id → Type 0) (D : Vec Val → Vec Val → Type 0) (old new : List (Id × Vec Val))
    → ((x y : Id) → C x y → y ≡ x) → ((v w : Vec Val) → D v w → w.items ≡ v.items) → AllZip (λ (p q : Id × Vec Val). C p.0 q.0 × D p.1 q.1) old new → map row_of new ≡ map row_of old
same_rows C D [] [] names values zip = refl
same_rows C D [] (q ∷ qs) names values zip = absurd zip
same_rows C D (p ∷ ps) [] names values zip = absurd zip
same_rows C D (p ∷ ps) (q ∷ qs) names values zip =
    ap (λ id. (id, q.1.items) ∷ map row_of qs) (names p.0 q.0 zip.0.0)
    ∙ ap (λ vs. (p.0, vs) ∷ map row_of qs) (values p.1 q.1 zip.0.1)
    ∙ ap (λ rows. row_of p ∷ rows) (same_rows C D ps qs names values zip.1)

pub graph_of-clone : (C : Id → Id → Type 0) (D : Vec Val → Vec Val → Type 0) (old new : List (Id × Vec Val)) (g : Graph)
    → ((x y : Id) → C x y → y ≡ x) → ((v w : Vec Val) → D v w → w.items ≡ v.items) → AllZip (λ (p q : Id × Vec Val). C p.0 q.0 × D p.1 q.1) old new → graph_of old ≡ g → graph_of new ≡ g
graph_of-clone C D old new g names values zip is = ap from_entries (same_rows C D old new names values zip) ∙ is

no_field : (i : ℕ) (v : Val) → slice_set [] i v ≡ []
no_field zero v = refl
no_field (suc i) v = refl

-- a field of an object that is not there
pub with_field-none : (objects before : List (Id × Vec Val)) (g : Graph) (id : Id) (i : ℕ) (v : Val) → graph_of objects ≡ g → before ≡ objects → None ≡ at id objects
    → insert (graph_of before) id [] ≡ with_field g id i v
with_field-none objects before g id i v is same none =
    ap (λ os. insert (graph_of os) id []) same
    ∙ ap (λ h. insert h id []) is
    ∙ ap (insert g id) (sym (no_field i v))
    ∙ ap (λ o. insert g id (slice_set (unwrap_or o []) i v)) (get-found objects g id None is none)

-- of one that is there
pub with_field-some : (old new : List (Id × Vec Val)) (g : Graph) (id : Id) (i : ℕ) (v : Val) (before after : Vec Val)
    → graph_of old ≡ g → Some before ≡ at id old → ((q : Id) → at q new ≡ cond (is_at (id_cmp id) q) (Some after) (at q old)) → after.items ≡ slice_set before.items i v
    → graph_of new ≡ with_field g id i v
with_field-some old new g id i v before after is found changes are =
    graph_of-written old new g id after _ is changes (are ∙ ap (λ o. slice_set (unwrap_or o []) i v) (get-found old g id (Some before) is found))

pub on_ok : {T E : Type 0} (r : Result T E) (P Q : Type 0) → (P → Q) → OnOk r P → OnOk r Q
on_ok (Ok x) P Q f h = f h
on_ok (Err e) P Q f h = tt
