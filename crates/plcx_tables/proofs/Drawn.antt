-- The names of drawn POUs are those of their diagrams.
use Rattle.std.proofs.Common.{◌≡◌, ℕ, ◌+◌, Bool, true, false, cond, List, [], ◌∷◌, length, map, Option, Some, None, unwrap_or, refl, sym, ap, ap₂, ◌∙◌, arith}
use Rattle.std.specs.List.{position_from}
use Rattle.plcx_meaning.specs.Diagram.{Project, is_program}
use Rattle.plcx_meaning.specs.Evaluate.{place_named}
use Rattle.plcx_model.specs.declared.project.Pou.{Pou}
use Rattle.plcx_model.specs.declared.project.PouKind.{PouKind}
use Rattle.plcx_model.specs.declared.project.PouKind.TheVariants.{Program, FunctionBlock}
use Rattle.plcx_view.specs.Declared.{kind_of_pou}
use Rattle.plcx_rules.specs.Texts.{same_name}
use Rattle.plcx_drawn.specs.declared.drawing.Drawing.{Drawing}
use Rattle.plcx_drawn.specs.Pous.{shown_pou}
use Rattle.plcx_tables.specs.declared.variables.Pous.{Pous}
use Rattle.plcx_tables.specs.Tables.{has_key, first_place}
use Rattle.plcx_tables.specs.Named.{NamesTold}
use Rattle.plcx_tables.specs.Telling.{pou_name, block_name, pou_names, block_names, AreNamed}

all_same : (pous : List Pou) (ds : List Drawing) → map pou_name ds ≡ pou_names (map (shown_pou pous) ds)
all_same pous [] = refl
all_same pous (d ∷ ds) = ap (λ ns. Some d.pou.now.name ∷ ns) (all_same pous ds)

blocks_same : (pous : List Pou) (ds : List Drawing) → map (λ (d : Drawing). block_name d.pou.now) ds ≡ block_names (map (shown_pou pous) ds)
blocks_same pous [] = refl
blocks_same pous (d ∷ ds) = ap₂ (λ n ns. n ∷ ns) (by d.pou.now.kind) (blocks_same pous ds)
  where
    by : (k : PouKind) → (elim k [ Program ↦ None | FunctionBlock ↦ Some d.pou.now.name ]) ≡ cond (is_program (kind_of_pou k)) None (Some d.pou.now.name)
    by Program = refl
    by FunctionBlock = refl

-- the tables of names of drawings are those of their diagrams
pub drawn_named : (pous : List Pou) (ds : List Drawing) (named : Pous) → NamesTold named.all.numbers.entries named.all.count (map pou_name ds)
    → NamesTold named.blocks.numbers.entries named.blocks.count (map (λ (d : Drawing). block_name d.pou.now) ds) → AreNamed (map (shown_pou pous) ds) named
drawn_named pous ds named all blocks = record { all = rw (sym (all_same pous ds)) all; blocks = rw (sym (blocks_same pous ds)) blocks }

-- the place of a name is the first that has it, or the one behind the last
pub place_is : (name : List ℕ) (project : Project) → unwrap_or (first_place same_name (pou_names project) name) (length (pou_names project)) ≡ place_named name project
place_is name project = (let e : length (pou_names project) ≡ 0 + length (pou_names project) = omega arith in ap (unwrap_or (first_place same_name (pou_names project) name)) e) ∙ from 0 project ∙ (let e : 0 + place_named name project ≡ place_named name project = omega arith in e)
  where
    test : Option (List ℕ) → Bool
    test = has_key (λ v. same_name v name)

    from : (i : ℕ) (ps : Project) → unwrap_or (position_from (has_key (λ v. same_name v name)) i (pou_names ps)) (i + length (pou_names ps)) ≡ i + place_named name ps
    from i [] = refl
    from i (p ∷ ps) = by (same_name p.name name) (from (i + 1) ps)
      where
        by : (b : Bool) → unwrap_or (position_from (has_key (λ v. same_name v name)) (i + 1) (pou_names ps)) (i + 1 + length (pou_names ps)) ≡ i + 1 + place_named name ps
            → unwrap_or (cond b (Some i) (position_from (has_key (λ v. same_name v name)) (i + 1) (pou_names ps))) (i + length (pou_names (p ∷ ps))) ≡ i + cond b 0 (place_named name ps + 1)
        by true h = (let e : i ≡ i + 0 = omega arith in e)
        by false h =
            (let e : i + length (pou_names (p ∷ ps)) ≡ i + 1 + length (pou_names ps) = omega arith in ap (unwrap_or (position_from (has_key (λ v. same_name v name)) (i + 1) (pou_names ps))) e)
            ∙ h ∙ (let e : i + 1 + place_named name ps ≡ i + (place_named name ps + 1) = omega arith in e)
