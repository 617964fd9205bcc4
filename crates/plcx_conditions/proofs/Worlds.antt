-- Where no two POUs of a unit have one name, what a type's name stands for is what it stands for in the meaning of texts.
use Rattle.std.proofs.Common.{◌≡◌, ℕ, Bool, true, false, not, cond, ◌&&◌, ◌||◌, List, [], ◌∷◌, Option, Some, None, map, refl, sym, ap, subst, ◌∙◌}
use Rattle.std.specs.Prelude.{is_some}
use Rattle.std.specs.List.{list_any, Contains}
use Rattle.std.specs.Str.{bytes_eq}
use Rattle.std.proofs.lemmas.Bool.{or_parts}
use mathlib.Core.Path.{fun_ext}
use Rattle.plcx_types.specs.Name.{in_lower_case}
use Rattle.plcx_types.specs.TypeName.{type_named}
use Rattle.plcx_std.specs.Kind.{kind_named}
use Rattle.plcx_meaning.specs.Base.{are_distinct}
use Rattle.plcx_meaning.specs.Tree.{PouText, is_program}
use Rattle.plcx_meaning.specs.Execute as text
use Rattle.plcx_meaning.specs.Ready.{unit_knows}
use Rattle.plcx_meaning.proofs.Names.{bytes_same, bytes_swapped}
use Rattle.plcx_meaning.proofs.Lists.{IsNew, distinct_parts, contains_first, contains_later}
use Rattle.plcx_conditions.specs.Known.{same_name, pou_named, block_alone, block_named, world_of, knows}

-- the names of POUs without case
abbrev pub pou_names : List PouText → List (List ℕ)
pou_names unit = map (λ (p : PouText). in_lower_case p.name) unit

-- no function block has a name that none of the POUs has
none_by : (k b : Bool) (p : PouText) (o : Option PouText) → b ≡ false → o ≡ None → cond (not k && b) (Some p) o ≡ None
none_by true b p o e h = h
none_by false true p o e h = absurd (cc)
none_by false false p o e h = h

none_named : (name key : List ℕ) (ps : List PouText) → key ≡ in_lower_case name → IsNew key (pou_names ps) → text.block_named name ps ≡ None
none_named name key [] e h = refl
none_named name key (p ∷ ps) e h =
    let parts = or_parts (bytes_eq key (in_lower_case p.name)) (list_any (bytes_eq key) (pou_names ps)) h in
    let other : bytes_eq (in_lower_case p.name) (in_lower_case name) ≡ false = bytes_swapped (in_lower_case p.name) (in_lower_case name) ∙ ap (λ (k : List ℕ). bytes_eq k (in_lower_case p.name)) (sym e) ∙ parts.0 in
    none_by (is_program p.kind) (bytes_eq (in_lower_case p.name) (in_lower_case name)) p (text.block_named name ps) other (none_named name key ps e parts.1)

same_by : (k b : Bool) (p : PouText) (o q : Option PouText) → is_program p.kind ≡ k → (b ≡ true → q ≡ None) → block_alone o ≡ q → block_alone (cond b (Some p) o) ≡ cond (not k && b) (Some p) q
same_by true true p o q e new h = rw (e) (sym (new refl))
same_by true false p o q e new h = h
same_by false true p o q e new h = rw (e) refl
same_by false false p o q e new h = h

pub block_is : (name : List ℕ) (unit : List PouText) → are_distinct (pou_names unit) ≡ true → block_named name unit ≡ text.block_named name unit
block_is name [] h = refl
block_is name (p ∷ ps) h =
    let parts = distinct_parts (in_lower_case p.name) (pou_names ps) h in
    same_by (is_program p.kind) (same_name p.name name) p (pou_named name ps) (text.block_named name ps) refl
    (λ same. none_named name (in_lower_case p.name) ps (bytes_same (in_lower_case p.name) (in_lower_case name) same) parts.0) (block_is name ps parts.1)

pub world_is : (unit : List PouText) → are_distinct (pou_names unit) ≡ true → world_of unit ≡ text.world_of unit
world_is unit h = fun_ext (λ key. ap (λ o. elim o [ Some p ↦ p.blocks | None ↦ [] ]) (block_is key unit h))

pub knows_is : (unit : List PouText) (type : List ℕ) → are_distinct (pou_names unit) ≡ true → knows unit type ≡ unit_knows unit type
knows_is unit type h = ap (λ (o : Option PouText). is_some (type_named type) || (is_some (kind_named type) || is_some o)) (block_is type unit h)

-- the function block that is found is one of the POUs
pub block_there : (name : List ℕ) (unit : List PouText) (p : PouText) → block_named name unit ≡ Some p → Contains unit p
block_there name [] p h = absurd (cc)
block_there name (q ∷ ps) p h = by_test (same_name q.name name) (is_program q.kind) refl (λ i. block_there name ps p i) h
  where
    by_test : (b k : Bool) → is_program q.kind ≡ k → (block_named name ps ≡ Some p → Contains ps p) → block_alone (cond b (Some q) (pou_named name ps)) ≡ Some p → Contains (q ∷ ps) p
    by_test true true e later i = let no : None ≡ Some p = rw (e) at i in absurd (cc)
    by_test true false e later i = let is : Some q ≡ Some p = rw (e) at i in let same : q ≡ p = cc in subst (λ (r : PouText). Contains (q ∷ ps) r) same (contains_first q ps)
    by_test false k e later i = contains_later q ps p (later i)
