-- Tables of layouts, one more at the end.
use Rattle.std.proofs.Common.{◌≡◌, ◌<◌, ◌≤◌, ◌+◌, ◌∙◌, ◌∷◌, ◌++◌, ℕ, List, [], take, length, get_or, sym, ap, subst}
use Rattle.std.proofs.lemmas.List.{take_more, take_all, map-append}
use Rattle.plcx_types.specs.Lists.{Each}
use Rattle.plcx_state.specs.declared.layout.Leaf.{Leaf}
use Rattle.plcx_state.specs.Layouts.{Laid, IsLaid}
use Rattle.plcx_state.specs.Tables.{IsTold}
use Rattle.plcx_state.proofs.Eaches.{each_push}
use Rattle.plcx_ticks.specs.Ticks.{HasPlainLeaves}
use Rattle.plcx_ticks.specs.ReadTicks.{tables_of, IsTable}

-- the leaves of a layout are a table
made : (l : Laid) → IsLaid l → IsTold l.leaves → IsTable l.leaves
made l laid told = record { tells = record { told = told; outside = laid.outside }; few = laid.few_leaves }

pub leaves_more : (lays : List Laid) (i : ℕ) (l : Laid) (t : List Leaf) (ts : List (List Leaf)) → i < length lays → l ≡ get_or lays i l → t ≡ l.leaves → ts ≡ tables_of (take i lays) → ts ++ t ∷ [] ≡ tables_of (take (i + 1) lays)
leaves_more lays i l t ts lt is table h =
    ap (λ (xs : List (List Leaf)). xs ++ t ∷ []) h
    ∙ ap (λ (x : List Leaf). tables_of (take i lays) ++ x ∷ []) (table ∙ ap (λ (z : Laid). z.leaves) is)
    ∙ sym (ap tables_of (take_more lays i l lt) ∙ map-append (λ (z : Laid). z.leaves) (take i lays) (get_or lays i l ∷ []))

pub leaves_all : (lays : List Laid) (i : ℕ) (ts : List (List Leaf)) → length lays ≤ i → ts ≡ tables_of (take i lays) → ts ≡ tables_of lays
leaves_all lays i ts le h = h ∙ ap tables_of (take_all i lays le)

pub tables_more : (ts : List (List Leaf)) (t : List Leaf) (l : Laid) → t ≡ l.leaves → IsLaid l → IsTold l.leaves → Each IsTable ts → Each IsTable (ts ++ t ∷ [])
tables_more ts t l table laid told h = each_push IsTable ts t h (subst IsTable (sym table) (made l laid told))

-- names on the paths of the leaves of a table are plain
pub plain_tables : (lays : List Laid) → Each IsTable (tables_of lays) → Each HasPlainLeaves lays
plain_tables [] h = tt
plain_tables (l ∷ lays) h = (h.0.tells.told.plain, plain_tables lays h.1)
