-- The layout of a program, put together.
use Rattle.std.proofs.Common.{◌≡◌, ℕ, ◌<◌, ◌^◌, List, [], ◌∷◌, Some, length, map, slice_get, refl, sym, ap, ◌∙◌, subst}
use Rattle.std.proofs.lemmas.Option.{slice_get_within, get_or_from_slice_get}
use Rattle.plcx_types.specs.Lists.{Each}
use Rattle.plcx_meaning.specs.Diagram as diagram
use Rattle.plcx_model.specs.declared.plan.Links.{Links}
use Rattle.plcx_model.specs.declared.plan.Types.{Types}
use Rattle.plcx_model.specs.declared.plan.Plan.{Plan}
use Rattle.plcx_model.specs.declared.project.Pou.{Pou}
use Rattle.plcx_model.specs.declared.project.Project.{Project}
use Rattle.plcx_model.specs.Sound.{PouIsSound}
use Rattle.plcx_state.specs.declared.layout.Leaf.{Leaf}
use Rattle.plcx_state.specs.declared.layout.Memory.{Memory}
use Rattle.plcx_meaning.specs.Evaluate.{scope_of}
use Rattle.plcx_meaning.specs.Layout.{is_retained}
use Rattle.plcx_numbered.specs.Agreeing.{Cell}
use Rattle.plcx_numbered.specs.Numbers.{depth, cells}
use Rattle.plcx_state.specs.Retains.{Pairwise}
use Rattle.plcx_state.specs.Layouts.{all_meant, BeginsTyped, laid, IsLaid}
use Rattle.plcx_view.specs.Checked.{IsChecked}
use Rattle.plcx_fits.proofs.Lists.{each_place}
use Rattle.plcx_fits.proofs.Spelled.{seen, whole}
use Rattle.plcx_layout.specs.Leaves.{program_leaves}
use Rattle.plcx_drawn.specs.declared.drawing.Drawing.{Drawing}
use Rattle.plcx_drawn.specs.Pous.{shown_pou}
use Rattle.plcx_drawn.specs.Shown.{shown_elements}
use Rattle.plcx_draw.proofs.PouLaws.{pou_at}
use Rattle.plcx_layout.specs.Memories.{all_elements, program_memories}
use Rattle.plcx_layout.specs.Laws.{LeavesAreLaid, LeavesStand}
use Rattle.plcx_layout.specs.Suits.{ListSuits, PousSuit}
use Rattle.plcx_layout.proofs.Suited.{lists_suit, pous_suit}
use Rattle.plcx_stored.specs.LaidFor.{IsLaidFor}
use Rattle.plcx_opening.specs.Laws.{drawn, MemoriesAreLaid}

-- the elements of drawings are those of the diagram that they show
pub elements_drawn : (pous : List Pou) (ds : List Drawing) → all_elements ds ≡ drawn (map (shown_pou pous) ds)
elements_drawn pous [] = refl
elements_drawn pous (d ∷ ds) = ap (λ rest. shown_elements d ∷ rest) (elements_drawn pous ds)

module _ (project : Project) (links : Links) (types : Types) (plan : Plan) (checked : IsChecked project links types plan) (i : ℕ) (p : Pou) (here : slice_get project.pous i ≡ Some p) (pous : List Pou) (same : pous ≡ project.pous)
    (ls : List Leaf) (are : all_meant ls ≡ program_leaves pous p) where
  -- the leaves and memories of a program can be laid out
  pub can_be_laid : LeavesStand → (PousSuit pous → Each ListSuits p.lists → Each BeginsTyped ls) → (ms : List Memory) → length ms < 2 ^ 32 → IsLaid (laid ls ms)
  can_be_laid stand typed ms few =
      let all = stand project links types plan checked i p here ls (are ∙ ap (λ (ps : List Pou). program_leaves ps p) same) in
      let own = each_place (PouIsSound project.pous) project.pous i p here checked.sound.pous in
      record {
        named = all.0;
        layout = all.1;
        typed = typed (subst PousSuit (sym same) (pous_suit project.pous checked.sound.pous)) (lists_suit project.pous p own);
        outside = all.2;
        few_leaves = all.3;
        few_memories = few;
      }

  -- and are those of its diagram
  pub are_of : LeavesAreLaid → MemoriesAreLaid → (ms : List Memory) → ms ≡ program_memories pous (drawn (whole project links types plan)) i
      → IsLaidFor (whole project links types plan) (seen project links types plan i p) (laid ls ms)
  are_of leaves_laid memories_laid ms is =
      let dia = whole project links types plan in
      let own = seen project links types plan i p in
      let m = memories_laid project links types plan checked.sound i p here in
      let mine : ms ≡ program_memories project.pous (drawn (whole project links types plan)) i = is ∙ ap (λ (ps : List Pou). program_memories ps (drawn (whole project links types plan)) i) same in
      record {
        leaves = record { leaves = are ∙ ap (λ (ps : List Pou). program_leaves ps p) same ∙ leaves_laid project links types plan checked.sound i p here };
        types = ap (map (λ (x : Memory). x.ty)) mine ∙ m.types;
        retained = subst (λ (xs : List Memory). Pairwise (λ (x : Memory) (c : Cell). x.retained ≡ is_retained (scope_of dia own) c.0) xs (cells depth dia own)) (sym mine) m.retained;
      }

  -- the diagram at a place is that of the POU there
  pub for_program : LeavesAreLaid → MemoriesAreLaid → (ms : List Memory) → ms ≡ program_memories pous (drawn (whole project links types plan)) i → (q : diagram.Pou) → slice_get (whole project links types plan) i ≡ Some q
      → IsLaidFor (whole project links types plan) q (laid ls ms)
  for_program leaves_laid memories_laid ms is q there =
      let own = pou_at project links types plan i p (slice_get_within project.pous i p here) (sym (get_or_from_slice_get project.pous i p p here)) in
      let one : Some (seen project links types plan i p) ≡ Some q = sym own ∙ there in
      let same : seen project links types plan i p ≡ q = cc in
      subst (λ (r : diagram.Pou). IsLaidFor (whole project links types plan) r (laid ls ms)) same (are_of leaves_laid memories_laid ms is)
