-- The program of a side, and what it is opened from.
use Rattle.std.proofs.Common.{◌≡◌, ℕ, Bool, true, false, List, [], ◌∷◌, Option, Some, None, map, get_or, slice_get, refl, sym, ap, ◌∙◌, subst}
use Rattle.std.specs.Prelude.{◌&&◌, if◌then◌else◌}
use Rattle.std.specs.Str.{bytes_eq}
use Rattle.std.proofs.lemmas.Bool.{and_parts}
use Rattle.plcx_types.specs.Lists.{Each}
use Rattle.plcx_types.specs.Name.{in_lower_case}
use Rattle.plcx_types.specs.Value.{Value}
use Rattle.plcx_meaning.specs.Base.{is_declared}
use Rattle.plcx_meaning.specs.Diagram.{Pou, Project, program_named}
use Rattle.plcx_meaning.specs.Layout.{Leaf as Meant}
use Rattle.plcx_meaning.specs.Tree.{PouKind, Program, FunctionBlock, is_program}
use Rattle.plcx_state.specs.declared.layout.Leaf.{Leaf}
use Rattle.plcx_state.specs.declared.store.Start.{Start}
use Rattle.plcx_state.specs.Layouts.{meant, all_meant, BeginsTyped}
use Rattle.plcx_state.specs.Retains.{Pairwise, Suits, IsRetainedOf}
use Rattle.plcx_state.specs.Stores.{StaysTyped, start_of, starts_of}
use Rattle.plcx_scan.specs.Sides.{HasTypeOf}

-- the program of a name is a program
pub program_is : (name : List ℕ) (project : Project) (p : Pou) → program_named name project ≡ Some p → is_program p.kind ≡ true
program_is name [] p h = absurd (cc)
program_is name (q ∷ project) p h = by (is_program q.kind && bytes_eq (in_lower_case q.name) (in_lower_case name)) refl (program_is name project p) h
  where
    by : (b : Bool) → (is_program q.kind && bytes_eq (in_lower_case q.name) (in_lower_case name)) ≡ b → (program_named name project ≡ Some p → is_program p.kind ≡ true)
        → (if b then Some q else program_named name project) ≡ Some p → is_program p.kind ≡ true
    by true is rest at = let same : q ≡ p = cc in subst (λ (r : Pou). is_program r.kind ≡ true) same (and_parts (is_program q.kind) (bytes_eq (in_lower_case q.name) (in_lower_case name)) is).0
    by false is rest at = rest at

pub program_kind : (k : PouKind) → is_program k ≡ true → k ≡ Program
program_kind Program h = refl
program_kind FunctionBlock h = absurd (cc)

-- leaves that are the same in the meaning have the same retained states
suits_same : (a b : Leaf) → meant a ≡ meant b → (v : Option Value) → Suits a v → Suits b v
suits_same a b e None h = sym (ap (λ (m : Meant). m.retained && is_declared m.path) e) ∙ h
suits_same a b e (Some v) h = (sym (ap (λ (m : Meant). m.retained && is_declared m.path) e) ∙ h.0, h.1 ∙ ap (λ (m : Meant). m.ty) e, h.2)

suit_same : (ls ms : List Leaf) → all_meant ls ≡ all_meant ms → (kept : List (Option Value)) → Pairwise Suits ls kept → Pairwise Suits ms kept
suit_same [] [] e [] h = tt
suit_same [] [] e (v ∷ kept) h = absurd h
suit_same [] (b ∷ ms) e kept h = absurd (cc)
suit_same (a ∷ ls) [] e kept h = absurd (cc)
suit_same (a ∷ ls) (b ∷ ms) e [] h = absurd h
suit_same (a ∷ ls) (b ∷ ms) e (v ∷ kept) h =
    let first : meant a ≡ meant b = cc in
    let rest : all_meant ls ≡ all_meant ms = cc in
    (suits_same a b first v h.0, suit_same ls ms rest kept h.1)

pub kept_same : (ls ms : List Leaf) → all_meant ls ≡ all_meant ms → (kept : List (Option Value)) → IsRetainedOf ls kept → IsRetainedOf ms kept
kept_same ls ms e kept h = record { suits = suit_same ls ms e kept h.suits }

-- values that stay of the types that they begin with are of the types of their leaves
pub values_typed : (leaves : List Leaf) (values : List Value) → Each BeginsTyped leaves → Pairwise StaysTyped (starts_of leaves) values → Pairwise HasTypeOf leaves values
values_typed [] [] typed h = tt
values_typed [] (v ∷ values) typed h = absurd h
values_typed (leaf ∷ leaves) [] typed h = absurd h
values_typed (leaf ∷ leaves) (v ∷ values) typed h = (h.0 ∙ typed.0, values_typed leaves values typed.1 h.1)
