-- Laws of the numbering: numbers stay, and it is that of the canon of each graph that is seen.
use Rattle.std.proofs.Common.{◌≡◌, ℕ, zero, suc, ◌+◌, Bool, true, false, cond, not, List, [], ◌∷◌, ◌++◌, length, map, Option, Some, None, unwrap_or, refl, sym, ap, ◌∙◌, subst, arith}
use Rattle.std.specs.Prelude.{nat_eq, nat_lt, ◌||◌, slice_get, position, if◌then◌else◌}
use Rattle.std.specs.Option.{option_and_then, option_map}
use Rattle.std.proofs.lemmas.List.{map-append, length-map}
use Rattle.std.specs.List.{list_any, position_or_len}
use Rattle.std.specs.FinMap.{len}
use Rattle.std.proofs.lemmas.Option.{same_Some, slice_get-map}
use Rattle.std.proofs.lemmas.Bool.{eqb-true, eq-eqb}
use Rattle.heap_words.specs.declared.Word.{Word}
use Rattle.heap_words.specs.declared.Word.TheVariants as word
use Rattle.heap_words.specs.Word.{meaning}
use Rattle.graph_model.specs.declared.id.Id.{Id}
use Rattle.graph_model.specs.declared.val.Val.{Val}
use Rattle.graph_model.specs.declared.val.Val.TheVariants.{Null, Int, Ref}
use Rattle.graph_model.specs.Graph.{Graph, is_same_id, root, fields}
use Rattle.graph_model.specs.Canon.{with_target, with_targets, visit, numbered, Object, shown, canon}
use Rattle.graph_model.proofs.Whole.Graph.{same_id, itself}
use Rattle.graph_model.proofs.Canon.NumberedRows.{rows_of}
use Rattle.graph_model.proofs.Canon.Visits.{enough_turns}
use Rattle.object_layout.specs.Layout.{field_words, stand, referred, as_ref, value, IsMet, at_start, along, IsKnown, IsSeenAs}
use Rattle.object_layout.proofs.SeenLaws.{seen_whole}
use Rattle.graph_print.specs.Order.{with_place, with_places, target, targets, IsOrder, first, next, shown_place, shown_word, row}
use Rattle.graph_print.proofs.Rows0.{rows}

-- places that are met
abbrev pub AreMet : List ℕ → ℕ → List ℕ → Type 0
AreMet words start [] = Unit {0}
AreMet words start (at ∷ ats) = IsMet words start at × AreMet words start ats

met_push : (words : List ℕ) (start : ℕ) (places : List ℕ) (at : ℕ) → AreMet words start places → IsMet words start at → AreMet words start (places ++ at ∷ [])
met_push words start [] at all met = (met, tt)
met_push words start (p ∷ ps) at all met = (all.0, met_push words start ps at all.1 met)

met_added : (words : List ℕ) (start : ℕ) (t : Bool) (places : List ℕ) (at : ℕ) → AreMet words start places → IsMet words start at
    → AreMet words start (if t then places else places ++ at ∷ [])
met_added words start true places at all met = all
met_added words start false places at all met = met_push words start places at all met

-- what fields lead to is met
abbrev LeadMet : List ℕ → ℕ → List ℕ → Type 0
LeadMet words start ws = (i w t : ℕ) → slice_get ws i ≡ Some w → target words w ≡ Some t → IsMet words start t

met_place : (words : List ℕ) (start : ℕ) (places : List ℕ) (o : Option ℕ) → AreMet words start places → ((t : ℕ) → o ≡ Some t → IsMet words start t) → AreMet words start (with_place places o)
met_place words start places None all leads = all
met_place words start places (Some t) all leads = met_added words start (list_any (nat_eq t) places) places t all (leads t refl)

met_places : (words : List ℕ) (start : ℕ) (places ws : List ℕ) → AreMet words start places → LeadMet words start ws → AreMet words start (with_places places (targets words ws))
met_places words start places [] all leads = all
met_places words start places (w ∷ ws) all leads =
    met_places words start (with_place places (target words w)) ws
    (met_place words start places (target words w) all (λ t is. leads zero w t refl is)) (λ i. leads (suc i))

-- so is each of them
pub met_get : (words : List ℕ) (start : ℕ) (places : List ℕ) (i at : ℕ) → AreMet words start places → slice_get places i ≡ Some at → IsMet words start at
met_get words start [] i at all is = cc
met_get words start (p ∷ ps) zero at all is = subst (IsMet words start) (same_Some p at is) all.0
met_get words start (p ∷ ps) (suc i) at all is = met_get words start ps i at all.1 is

-- what is numbered is met
pub order_met : (words : List ℕ) (start count : ℕ) (places : List ℕ) → IsOrder words start count places → AreMet words start places
order_met words start count places (first is) = (at_start is, tt)
order_met words start count places (next {count = before} {places = ps} at order is whole) =
    let all = order_met words start before ps order in
    met_places words start ps (field_words words at) all (λ i w t here leads. along i w t (met_get words start ps before at all is) here leads)

same_test : (name : ℕ → Id) (a b : ℕ) (t u : Bool) → (name a ≡ name b → a ≡ b) → is_same_id (name a) (name b) ≡ t → nat_eq a b ≡ u → t ≡ u
same_test name a b true true apart is is' = refl
same_test name a b false false apart is is' = refl
same_test name a b true false apart is is' =
    let clash = sym is' ∙ eq-eqb a b (apart (same_id (name a) (name b) is)) in cc
same_test name a b false true apart is is' =
    let clash = sym is ∙ ap (λ x. is_same_id (name a) (name x)) (sym (eqb-true a b is')) ∙ itself (name a) in cc

name_test : (name : ℕ → Id) (words : List ℕ) (start : ℕ) (g : Graph) (a b : ℕ) → IsSeenAs name words start g → IsMet words start a → IsMet words start b
    → is_same_id (name a) (name b) ≡ nat_eq a b
name_test name words start g a b seen one other =
    same_test name a b (is_same_id (name a) (name b)) (nat_eq a b) (seen.apart a b one other) refl refl

-- Testing a place among the numbered ones is testing its name.
name_any : (name : ℕ → Id) (words : List ℕ) (start : ℕ) (g : Graph) (at : ℕ) (places : List ℕ) → IsSeenAs name words start g → IsMet words start at → AreMet words start places
    → list_any (is_same_id (name at)) (map name places) ≡ list_any (nat_eq at) places
name_any name words start g at [] seen met all = refl
name_any name words start g at (p ∷ ps) seen met all =
    ap (λ t. t || list_any (is_same_id (name at)) (map name ps)) (name_test name words start g at p seen met all.0)
    ∙ ap (λ t. nat_eq at p || t) (name_any name words start g at ps seen met all.1)

map_added : (name : ℕ → Id) (t : Bool) (places : List ℕ) (at : ℕ)
    → map name (if t then places else places ++ at ∷ []) ≡ (if t then map name places else map name places ++ name at ∷ [])
map_added name true places at = refl
map_added name false places at = map-append name places (at ∷ [])

named_ref : (name : ℕ → Id) (words : List ℕ) (start : ℕ) (g : Graph) (places : List ℕ) (o : Option ℕ) (v : Val) → IsSeenAs name words start g → AreMet words start places
    → ((t : ℕ) → o ≡ Some t → IsMet words start t) → option_and_then (as_ref name) o ≡ Some v → map name (with_place places o) ≡ with_target (map name places) v
named_ref name words start g places None v seen all leads is = cc
named_ref name words start g places (Some c) v seen all leads is =
    map_added name (list_any (nat_eq c) places) places c
    ∙ ap (λ t. if t then map name places else map name places ++ name c ∷ []) (sym (name_any name words start g c places seen (leads c refl) all))
    ∙ ap (with_target (map name places)) (same_Some (Ref (name c)) v is)

named_place : (name : ℕ → Id) (words : List ℕ) (start : ℕ) (g : Graph) (places : List ℕ) (meant : Option Word) (v : Val) → IsSeenAs name words start g → AreMet words start places
    → ((t : ℕ) → referred words meant ≡ Some t → IsMet words start t) → value name words meant ≡ Some v
    → map name (with_place places (referred words meant)) ≡ with_target (map name places) v
named_place name words start g places None v seen all leads is = cc
named_place name words start g places (Some word.Null) v seen all leads is = ap (with_target (map name places)) (same_Some Null v is)
named_place name words start g places (Some (word.Int n)) v seen all leads is = ap (with_target (map name places)) (same_Some (Int n) v is)
named_place name words start g places (Some (word.Stable b)) v seen all leads is = named_ref name words start g places (stand words b) v seen all leads is
named_place name words start g places (Some (word.Volatile k)) v seen all leads is = cc

-- The names of the places that fields number are those that their values number.
named_places : (name : ℕ → Id) (words : List ℕ) (start : ℕ) (g : Graph) (places ws : List ℕ) (vs : List Val) → IsSeenAs name words start g → AreMet words start places
    → LeadMet words start ws → map (λ w. value name words (meaning w)) ws ≡ map Some vs
    → map name (with_places places (targets words ws)) ≡ with_targets (map name places) vs
named_places name words start g places [] [] seen all leads is = refl
named_places name words start g places [] (v ∷ vs) seen all leads is = cc
named_places name words start g places (w ∷ ws) [] seen all leads is = cc
named_places name words start g places (w ∷ ws) (v ∷ vs) seen all leads is =
    let here : value name words (meaning w) ≡ Some v = cc in
    let rest : map (λ x. value name words (meaning x)) ws ≡ map Some vs = cc in
    let lead : (t : ℕ) → target words w ≡ Some t → IsMet words start t = λ t leads_on. leads zero w t refl leads_on in
    named_places name words start g (with_place places (target words w)) ws vs seen (met_place words start places (target words w) all lead) (λ i. leads (suc i)) rest
    ∙ ap (λ ids. with_targets ids vs) (named_place name words start g places (meaning w) v seen all lead here)

known_fields : (name : ℕ → Id) (words : List ℕ) (g : Graph) (at : ℕ) (known : IsKnown name words g at) → fields g (name at) ≡ known.fields
known_fields name words g at known = ap (λ o. unwrap_or o []) known.is

-- The canon's visits follow the numbering.
order_visit : (name : ℕ → Id) (words : List ℕ) (start : ℕ) (g : Graph) (count : ℕ) (places : List ℕ) (n : ℕ) → IsSeenAs name words start g → IsOrder words start count places
    → visit g (n + count) 0 (Some root) (root ∷ []) ≡ visit g n count (slice_get (map name places) count) (map name places)
order_visit name words start g count places n seen (first {at = at} is) =
    let named : root ≡ name at = sym seen.named ∙ ap name (same_Some seen.first at (sym seen.stands ∙ is)) in
    let turns : n + 0 ≡ n = omega arith in
    ap (λ k. visit g k 0 (Some root) (root ∷ [])) turns ∙ ap (λ x. visit g n 0 (Some x) (x ∷ [])) named
order_visit name words start g count places n seen (next {count = before} {places = ps} at order is whole) =
    let all = order_met words start before ps order in
    let met = met_get words start ps before at all is in
    let known = seen.known at met in
    let turns : n + (before + 1) ≡ suc n + before = omega arith in
    let more = named_places name words start g ps (field_words words at) known.fields seen all (λ i w t here leads. along i w t met here leads) known.values in
    ap (λ k. visit g k 0 (Some root) (root ∷ [])) turns
    ∙ order_visit name words start g before ps (suc n) seen order
    ∙ ap (λ o. visit g (suc n) before o (map name ps)) (slice_get-map name ps before ∙ ap (option_map name) is)
    ∙ ap (λ vs. visit g n (before + 1) (slice_get (with_targets (map name ps) vs) (before + 1)) (with_targets (map name ps) vs)) (known_fields name words g at known)
    ∙ ap (λ ids. visit g n (before + 1) (slice_get ids (before + 1)) ids) (sym more)

no_next : (g : Graph) (n i : ℕ) (ids : List Id) → visit g n i None ids ≡ ids
no_next g zero i ids = refl
no_next g (suc n) i ids = refl

-- Once all are visited, the names of the places are what the canon numbers.
order_numbered : (name : ℕ → Id) (words : List ℕ) (start : ℕ) (g : Graph) (count : ℕ) (places : List ℕ) → IsSeenAs name words start g → IsOrder words start count places
    → slice_get places count ≡ None → numbered g ≡ map name places
order_numbered name words start g count places seen order over =
    sym (enough_turns g (len g + count) (seen_whole name words start g seen) (omega arith))
    ∙ order_visit name words start g count places (len g) seen order
    ∙ ap (λ o. visit g (len g) count o (map name places)) (slice_get-map name places count ∙ ap (option_map name) over)
    ∙ no_next g (len g) count (map name places)

name_place : (name : ℕ → Id) (words : List ℕ) (start : ℕ) (g : Graph) (at : ℕ) (places : List ℕ) → IsSeenAs name words start g → IsMet words start at → AreMet words start places
    → position_or_len (is_same_id (name at)) (map name places) ≡ position_or_len (nat_eq at) places
name_place name words start g at [] seen met all = refl
name_place name words start g at (p ∷ ps) seen met all =
    ap (λ t. cond (not t) (1 + position_or_len (is_same_id (name at)) (map name ps)) 0) (name_test name words start g at p seen met all.0)
    ∙ ap (λ n. cond (not (nat_eq at p)) (1 + n) 0) (name_place name words start g at ps seen met all.1)

name_number : (name : ℕ → Id) (words : List ℕ) (start : ℕ) (g : Graph) (at : ℕ) (places : List ℕ) → IsSeenAs name words start g → IsMet words start at → AreMet words start places
    → position (is_same_id (name at)) (map name places) ≡ position (nat_eq at) places
name_number name words start g at places seen met all =
    ap (λ p. cond (nat_lt p (length (map name places))) (Some p) None) (name_place name words start g at places seen met all)
    ∙ ap (λ n. let p = position_or_len (nat_eq at) places in cond (nat_lt p n) (Some p) None) (length-map places name)

shown_ref : (name : ℕ → Id) (words : List ℕ) (start : ℕ) (g : Graph) (places : List ℕ) (o : Option ℕ) (v : Val) → IsSeenAs name words start g → AreMet words start places
    → ((t : ℕ) → o ≡ Some t → IsMet words start t) → option_and_then (as_ref name) o ≡ Some v → shown (map name places) v ≡ shown_place places o
shown_ref name words start g places None v seen all leads is = cc
shown_ref name words start g places (Some c) v seen all leads is =
    ap (shown (map name places)) (sym (same_Some (Ref (name c)) v is))
    ∙ ap (λ n. Object (unwrap_or n 0)) (name_number name words start g c places seen (leads c refl) all)

shown_field : (name : ℕ → Id) (words : List ℕ) (start : ℕ) (g : Graph) (places : List ℕ) (meant : Option Word) (v : Val) → IsSeenAs name words start g → AreMet words start places
    → ((t : ℕ) → referred words meant ≡ Some t → IsMet words start t) → value name words meant ≡ Some v → shown (map name places) v ≡ shown_word words places meant
shown_field name words start g places None v seen all leads is = cc
shown_field name words start g places (Some word.Null) v seen all leads is = ap (shown (map name places)) (sym (same_Some Null v is))
shown_field name words start g places (Some (word.Int n)) v seen all leads is = ap (shown (map name places)) (sym (same_Some (Int n) v is))
shown_field name words start g places (Some (word.Stable b)) v seen all leads is = shown_ref name words start g places (stand words b) v seen all leads is
shown_field name words start g places (Some (word.Volatile k)) v seen all leads is = cc

shown_row : (name : ℕ → Id) (words : List ℕ) (start : ℕ) (g : Graph) (places ws : List ℕ) (vs : List Val) → IsSeenAs name words start g → AreMet words start places
    → LeadMet words start ws → map (λ w. value name words (meaning w)) ws ≡ map Some vs → map (shown (map name places)) vs ≡ row words places ws
shown_row name words start g places [] [] seen all leads is = refl
shown_row name words start g places [] (v ∷ vs) seen all leads is = cc
shown_row name words start g places (w ∷ ws) [] seen all leads is = cc
shown_row name words start g places (w ∷ ws) (v ∷ vs) seen all leads is =
    let here : value name words (meaning w) ≡ Some v = cc in
    let rest : map (λ x. value name words (meaning x)) ws ≡ map Some vs = cc in
    ap (λ s. s ∷ map (shown (map name places)) vs) (shown_field name words start g places (meaning w) v seen all (λ t leads_on. leads zero w t refl leads_on) here)
    ∙ ap (λ ss. shown_word words places (meaning w) ∷ ss) (shown_row name words start g places ws vs seen all (λ i. leads (suc i)) rest)

shown_rows : (name : ℕ → Id) (words : List ℕ) (start : ℕ) (g : Graph) (places ats : List ℕ) → IsSeenAs name words start g → AreMet words start places → AreMet words start ats
    → rows_of g (map name places) (map name ats) ≡ rows words places ats
shown_rows name words start g places [] seen all met = refl
shown_rows name words start g places (at ∷ ats) seen all met =
    let known = seen.known at met.0 in
    let here = ap (λ vs. map (shown (map name places)) vs) (known_fields name words g at known)
    ∙ shown_row name words start g places (field_words words at) known.fields seen all (λ i w t is leads. along i w t met.0 is leads) known.values in
    ap (λ r. r ∷ rows_of g (map name places) (map name ats)) here
    ∙ ap (λ rs. row words places (field_words words at) ∷ rs) (shown_rows name words start g places ats seen all met.1)

-- Once all are visited, the rows are the canon of each graph that is seen, whatever its names.
pub order_canon : (name : ℕ → Id) (words : List ℕ) (start : ℕ) (g : Graph) (count : ℕ) (places : List ℕ) → IsSeenAs name words start g → IsOrder words start count places
    → slice_get places count ≡ None → canon g ≡ rows words places places
order_canon name words start g count places seen order over =
    let all = order_met words start count places order in
    ap (λ ids. rows_of g ids ids) (order_numbered name words start g count places seen order over)
    ∙ shown_rows name words start g places places seen all all
