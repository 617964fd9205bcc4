-- The POUs of a project, and their texts in its unit.
use Rattle.std.proofs.Common.{◌≡◌, ℕ, Bool, true, false, ◌&&◌, List, [], ◌∷◌, Option, Some, refl, subst, if◌then◌else◌}
use Rattle.std.specs.Prelude.{not}
use Rattle.std.specs.List.{Contains}
use Rattle.std.specs.Option.{option_map}
use Rattle.std.specs.Str.{bytes_eq}
use Rattle.plcx_types.specs.Name.{in_lower_case}
use Rattle.plcx_meaning.specs.Tree.{PouText}
use Rattle.plcx_meaning.specs.Layout.{Variable, variable_named}
use Rattle.plcx_meaning.specs.Diagram.{Pou, Project, is_program, program_named, block_named}
use Rattle.plcx_meaning.specs.Execute as text
use Rattle.plcx_meaning.specs.Templates.{pou_text, unit_of}
use Rattle.plcx_meaning.proofs.Lists.{contains_first, contains_later}

-- a test that is passed, or not, on both sides
both_found : (b : Bool) (p : Pou) (o : Option PouText) (r : Option Pou) → o ≡ option_map pou_text r → (if b then Some (pou_text p) else o) ≡ option_map pou_text (if b then Some p else r)
both_found true p o r e = refl
both_found false p o r e = e

pub program_text : (name : List ℕ) (project : Project) → text.program_named name (unit_of project) ≡ option_map pou_text (program_named name project)
program_text name [] = refl
program_text name (p ∷ ps) = both_found (is_program p.kind && bytes_eq (in_lower_case p.name) (in_lower_case name)) p _ _ (program_text name ps)

-- what is found by a first test is one of the list
found_here : {A : Type 0} (b : Bool) (x : A) (xs : List A) (o : Option A) (y : A) → (o ≡ Some y → Contains xs y) → (if b then Some x else o) ≡ Some y → Contains (x ∷ xs) y
found_here true x xs o y later e = let same : x ≡ y = cc in subst (Contains (x ∷ xs)) same (contains_first x xs)
found_here false x xs o y later e = contains_later x xs y (later e)

pub block_there : (name : List ℕ) (project : Project) (p : Pou) → block_named name project ≡ Some p → Contains project p
block_there name [] p e = absurd (cc)
block_there name (q ∷ qs) p e = found_here (not (is_program q.kind) && bytes_eq (in_lower_case q.name) (in_lower_case name)) q qs _ p (block_there name qs p) e

pub program_there : (name : List ℕ) (project : Project) (p : Pou) → program_named name project ≡ Some p → Contains project p
program_there name [] p e = absurd (cc)
program_there name (q ∷ qs) p e = found_here (is_program q.kind && bytes_eq (in_lower_case q.name) (in_lower_case name)) q qs _ p (program_there name qs p) e

pub variable_there : (key : List ℕ) (vs : List Variable) (v : Variable) → variable_named key vs ≡ Some v → Contains vs v
variable_there key [] v e = absurd (cc)
variable_there key (w ∷ ws) v e = found_here (bytes_eq (in_lower_case w.name) key) w ws _ v (variable_there key ws v) e
