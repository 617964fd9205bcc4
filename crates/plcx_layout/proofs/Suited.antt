-- Initial values of sound projects suit.
use Rattle.std.proofs.Common.{List}
use Rattle.plcx_types.specs.Lists.{Each}
use Rattle.plcx_meaning.proofs.Lists.{each_weaker}
use Rattle.plcx_model.specs.declared.project.Pou.{Pou}
use Rattle.plcx_model.specs.Sound.{VariableIsSound, ListIsSound, PouIsSound}
use Rattle.plcx_layout.specs.Suits.{Suits, ListSuits, PousSuit}

pub lists_suit : (pous : List Pou) (p : Pou) → PouIsSound pous p → Each ListSuits p.lists
lists_suit pous p s = each_weaker (ListIsSound pous p.kind) ListSuits p.lists (λ l h. each_weaker (VariableIsSound pous l) Suits l.variables (λ v one. one.initial) h.variables) s.lists

pub pous_suit : (pous : List Pou) → Each (PouIsSound pous) pous → PousSuit pous
pous_suit pous s = each_weaker (PouIsSound pous) (λ (p : Pou). Each ListSuits p.lists) pous (λ p one. lists_suit pous p one) s
