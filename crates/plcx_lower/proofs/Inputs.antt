-- The inputs of an operator: the first ones and those behind them.
use Rattle.std.proofs.Common.{◌≡◌, ◌≤◌, ◌-◌, List, map, length, get_or, take, drop, subst}
use Rattle.std.proofs.lemmas.List.{take_rest}
use Rattle.plcx_types.specs.Lists.{Each}
use Rattle.plcx_meaning.specs.Tree.{Operator, Expression, Binary}
use Rattle.plcx_meaning.specs.Templates.{link_text, chain, neighbours}
use Rattle.plcx_st.specs.InRange.{ExpressionInRange}
use Rattle.plcx_drawn.specs.declared.element.Link.{Link}
use Rattle.plcx_drawn.specs.Shown.{shown_link}
use Rattle.plcx_lower.proofs.Ranges.{fold_parts, compared_parts}
use Rattle.plcx_lower.proofs.Steps.{first_of_all, first_two}

abbrev pub texts : List Link → List Expression
texts links = map link_text (map shown_link links)

abbrev pub text : Link → Expression
text link = link_text (shown_link link)

pub chained_parts : (op : Operator) (xs : List Link) (x : Link) → 1 ≤ length xs → x ≡ get_or xs 0 x → ExpressionInRange (chain op (texts xs))
    → ExpressionInRange (text x) × Each ExpressionInRange (texts (take (length xs - 1) (drop 1 xs)))
chained_parts op xs x low e h =
    let parts = fold_parts op (text x) (texts (drop 1 xs)) (subst (λ ys. ExpressionInRange (chain op (texts ys))) (first_of_all xs x low e) h) in
    (parts.0, rw (take_rest xs 1) parts.1)

pub neighbour_parts : (op : Operator) (xs : List Link) (x y : Link) → 2 ≤ length xs → x ≡ get_or xs 0 x → y ≡ get_or xs 1 y → ExpressionInRange (neighbours op (texts xs))
    → ExpressionInRange (text x) × ExpressionInRange (text y) × Each ExpressionInRange (texts (take (length xs - 2) (drop 2 xs)))
neighbour_parts op xs x y low e k h =
    let parts = compared_parts op (Binary op (text x) (text y)) (text y) (texts (drop 2 xs)) (subst (λ ys. ExpressionInRange (neighbours op (texts ys))) (first_two xs x y low e k) h) in
    (parts.0.0, parts.0.1, rw (take_rest xs 2) parts.1)
