-- What is known of a POU of a unit that is ready.
use Rattle.std.proofs.Common.{◌≡◌, ℕ, List, Some, map, sym, ap, ◌∙◌, subst}
use Rattle.std.specs.Prelude.{slice_get, option_map, nat_eq, IsTrue, ◌↔◌}
use Rattle.std.proofs.lemmas.Bool.{eqb-true, eq-eqb}
use Rattle.std.proofs.lemmas.Option.{slice_get-map}
use Rattle.plcx_types.specs.Lists.{Each}
use Rattle.plcx_meaning.specs.Tree as tree
use Rattle.plcx_meaning.specs.Execute.{scope_of}
use Rattle.plcx_meaning.specs.Ready.{StatementIsReady, PouIsReady, IsReady}
use Rattle.plcx_meaning.proofs.Lists.{each_at}
use Rattle.plcx_st.specs.declared.tree.PouText.{PouText}
use Rattle.plcx_st.specs.declared.tree.Stmt.{Stmt}
use Rattle.plcx_st.specs.Meant.{stmt_meant, pou_meant}
use Rattle.plcx_known.specs.Unit.{placed_of}
use Rattle.plcx_known.specs.Parts.{owners_of}
use Rattle.plcx_known.specs.Sizes.{size_at}
use Rattle.plcx_numbered.proofs.Numbers.{there_at}
use Rattle.plcx_text_pieces.specs.Called.{Numbers, numbers_of}
use Rattle.plcx_text_tables.specs.Counts.{all_heights}
use Rattle.plcx_text_order.specs.Made.{owner, level_of}
use Rattle.plcx_text_program.proofs.Bare.{level_is}

same_answer : (n m level : ℕ) → n ≡ m → IsTrue (nat_eq n level) ↔ (m ≡ level)
same_answer n m level is = (λ yes. sym is ∙ eqb-true n level yes, λ same. eq-eqb n level (is ∙ same))

module _ (pous : List PouText) (ready : IsReady (map pou_meant pous)) (place : ℕ) (p : PouText) (there : slice_get pous place ≡ Some p) where
  abbrev whole : List tree.PouText
  whole = map pou_meant pous

  pub meant_there : slice_get whole place ≡ Some (pou_meant p)
  meant_there = slice_get-map pou_meant pous place ∙ ap (option_map pou_meant) there

  -- whether it is of a level
  pub level_answer : (n level : ℕ) → n ≡ size_at (all_heights (owners_of (placed_of pous))) place → IsTrue (nat_eq n level) ↔ (level_of whole (pou_meant p) ≡ level)
  level_answer n level is = same_answer n (level_of whole (pou_meant p)) level (is ∙ level_is pous ready place p there)

  -- its body is ready, by its numbers too
  body_ready : Each (StatementIsReady (scope_of whole (pou_meant p))) (pou_meant p).body
  body_ready = (each_at (PouIsReady whole) whole (pou_meant p) ready.pous (there_at whole place (pou_meant p) meant_there)).body

  pub statements_ready : (n : Numbers) (body : List Stmt) → n ≡ numbers_of (owner whole place (pou_meant p)) → body ≡ p.body → Each (StatementIsReady n.names.scope) (map stmt_meant body)
  statements_ready n body same is =
      subst (λ (m : Numbers). Each (StatementIsReady m.names.scope) (map stmt_meant body)) (sym same)
      (subst (λ (ss : List Stmt). Each (StatementIsReady (scope_of whole (pou_meant p))) (map stmt_meant ss)) (sym is) body_ready)
