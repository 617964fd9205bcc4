-- The printed shapes and lines of each form of the tree, and of one thing more.
use Rattle.std.proofs.Common.{◌≡◌, ℕ, zero, suc, ◌+◌, ◌≤◌, ◌<◌, Bool, true, false, ltb, eqb, eqb→eq, T, List, [], ◌∷◌, ◌++◌, map, length, take, get_or, refl, sym, ap, subst, ◌∙◌, append_assoc, arith}
use Rattle.std.proofs.lemmas.List.{append-nil, map_push, take_more}
use Rattle.std.proofs.lemmas.Bool.{le-ltb}
use Rattle.std.specs.Prelude.{codes}
use Rattle.plcx_types.specs.declared.span.Span.{Span}
use Rattle.plcx_meaning.specs.Tree as tree
use Rattle.plcx_meaning.specs.Tree.{Expression, Argument, Statement}
use Rattle.plcx_st.specs.declared.printing.Printer.{Printer}
use Rattle.plcx_st.specs.declared.tree.Word.{Word}
use Rattle.plcx_st.specs.declared.tree.Number.{Number}
use Rattle.plcx_st.specs.declared.tree.Op.{Op}
use Rattle.plcx_st.specs.declared.tree.Expr.{Expr}
use Rattle.plcx_st.specs.declared.tree.Expr.TheVariants as e
use Rattle.plcx_st.specs.declared.tree.Arg.{Arg}
use Rattle.plcx_st.specs.declared.tree.Arm.{Arm}
use Rattle.plcx_st.specs.declared.tree.Stmt.{Stmt}
use Rattle.plcx_st.specs.declared.tree.Stmt.TheVariants as s
use Rattle.plcx_st.specs.Meant.{number_meant, op_meant, expr_meant, arg_meant, Labelled, stmt_meant}
use Rattle.plcx_st.specs.Binding.{level, tightest}
use Rattle.plcx_st.specs.Print.{Shape, word, sign, name, number, operator_shape, in_brackets, expression_shapes, list_shapes, further_shapes, argument_shapes, arguments_shapes, further_arguments, Line, line, opening, closing, label_line, statement_lines, statements_lines, arms_lines}
use Rattle.plcx_st.specs.Printer.{Puts, Writes, arm_meant}
use Rattle.plcx_st.proofs.Puts.{comma_sign, puts_then, puts_along, puts_none, writes_then, writes_along, writes_none}
use Rattle.plcx_st.proofs.Views.{number_view, name_view, member_view, call_view, not_view, binary_view, assign_view, call_statement_view, if_view, while_view, case_view}

-- ---- expressions

pub number_shapes : (least : ℕ) (v : Number) → expression_shapes least (expr_meant (e.Number v)) ≡ number (number_meant v) ∷ []
unfolding expression_shapes
number_shapes least v = ap (expression_shapes least) (number_view v)

pub name_shapes : (least : ℕ) (w : Word) → expression_shapes least (expr_meant (e.Name w)) ≡ name w.name ∷ []
unfolding expression_shapes
name_shapes least w = ap (expression_shapes least) (name_view w)

pub member_shapes : (least : ℕ) (i o : Word) → expression_shapes least (expr_meant (e.Member i o)) ≡ name i.name ∷ sign (codes ".") ∷ name o.name ∷ []
unfolding expression_shapes
member_shapes least i o = ap (expression_shapes least) (member_view i o)

pub call_shapes : (least : ℕ) (w : Word) (es : List Expr) → expression_shapes least (expr_meant (e.Call w es)) ≡ name w.name ∷ in_brackets (list_shapes (tree.expressions (map expr_meant es)))
unfolding expression_shapes
call_shapes least w es = ap (expression_shapes least) (call_view w es)

pub not_shapes : (least : ℕ) (x : Expr) (span : Span) → expression_shapes least (expr_meant (e.Not x span)) ≡ word (codes "NOT") ∷ expression_shapes tightest (expr_meant x)
unfolding expression_shapes
not_shapes least x span = ap (expression_shapes least) (not_view x span)

abbrev pub between : Op → Expr → Expr → List Shape
between o x y = expression_shapes (level (op_meant o)) (expr_meant x) ++ operator_shape (op_meant o) ∷ expression_shapes (suc (level (op_meant o))) (expr_meant y)

pub loose_shapes : (least : ℕ) (o : Op) (x y : Expr) → level (op_meant o) < least → expression_shapes least (expr_meant (e.Binary o x y)) ≡ in_brackets (between o x y)
unfolding expression_shapes
loose_shapes least o x y lt = ap (expression_shapes least) (binary_view o x y) ∙ (let is : ltb (level (op_meant o)) least ≡ true = grind arith in rw is refl)

pub tight_shapes : (least : ℕ) (o : Op) (x y : Expr) → least ≤ level (op_meant o) → expression_shapes least (expr_meant (e.Binary o x y)) ≡ between o x y
unfolding expression_shapes
tight_shapes least o x y le = ap (expression_shapes least) (binary_view o x y) ∙ (let is : ltb (level (op_meant o)) least ≡ false = le-ltb _ _ le in rw is refl)

-- ---- one more expression of a list

abbrev pub comma_behind : {A : Type 0} → List A → List Shape
comma_behind [] = []
comma_behind (x ∷ xs) = comma_sign ∷ []

further_snoc : (es : List Expression) (x : Expression) → further_shapes (tree.expressions (es ++ x ∷ [])) ≡ further_shapes (tree.expressions es) ++ comma_sign ∷ expression_shapes 0 x
unfolding expression_shapes
further_snoc [] x = append-nil (comma_sign ∷ expression_shapes 0 x)
further_snoc (y ∷ es) x = ap (λ (z : List Shape). comma_sign ∷ (expression_shapes 0 y ++ z)) (further_snoc es x) ∙ sym (append_assoc (comma_sign ∷ expression_shapes 0 y) (further_shapes (tree.expressions es)) (comma_sign ∷ expression_shapes 0 x))

list_snoc : (es : List Expression) (x : Expression) → list_shapes (tree.expressions (es ++ x ∷ [])) ≡ list_shapes (tree.expressions es) ++ (comma_behind es ++ expression_shapes 0 x)
unfolding expression_shapes
list_snoc [] x = append-nil (expression_shapes 0 x)
list_snoc (y ∷ es) x = ap (λ (z : List Shape). expression_shapes 0 y ++ z) (further_snoc es x) ∙ sym (append_assoc (expression_shapes 0 y) (further_shapes (tree.expressions es)) (comma_sign ∷ expression_shapes 0 x))

pub no_expressions : (p : Printer) → Puts p p (list_shapes tree.no_expression)
unfolding expression_shapes
no_expressions p = puts_none p

pub one_more_expression : (args : List Expr) (i : ℕ) (x : Expr) (p q r : Printer) → i < length args → x ≡ get_or args i x → Puts p q (list_shapes (tree.expressions (map expr_meant (take i args))) ++ comma_behind (map expr_meant (take i args)))
    → Puts q r (expression_shapes 0 (expr_meant x)) → Puts p r (list_shapes (tree.expressions (map expr_meant (take (i + 1) args))))
one_more_expression args i x p q r lt is a b =
    let front : List Expression = map expr_meant (take i args) in
    let grown : map expr_meant (take (i + 1) args) ≡ front ++ expr_meant x ∷ [] = ap (map expr_meant) (take_more args i x lt ∙ ap (λ (y : Expr). take i args ++ y ∷ []) (sym is)) ∙ map_push expr_meant (take i args) x in
    let whole : list_shapes (tree.expressions (map expr_meant (take (i + 1) args))) ≡ (list_shapes (tree.expressions front) ++ comma_behind front) ++ expression_shapes 0 (expr_meant x)
    = ap (λ z. list_shapes (tree.expressions z)) grown ∙ list_snoc front (expr_meant x) ∙ sym (append_assoc (list_shapes (tree.expressions front)) (comma_behind front) (expression_shapes 0 (expr_meant x))) in
    puts_along p r _ _ whole (puts_then p q r (list_shapes (tree.expressions front) ++ comma_behind front) (expression_shapes 0 (expr_meant x)) a b)

-- ---- commas between the things of a loop

pub commas : {A B : Type 0} (f : A → B) (args : List A) (i : ℕ) → i < length args → eqb i 0 ≡ false → comma_behind (map f (take i args)) ≡ comma_sign ∷ []
commas f [] i lt h = absurd (omega arith)
commas f (x ∷ args) zero lt h = absurd (let no : true ≡ false = h in cc)
commas f (x ∷ args) (suc i) lt h = refl

pub no_commas : {A B : Type 0} (f : A → B) (args : List A) (i : ℕ) → eqb i 0 ≡ true → comma_behind (map f (take i args)) ≡ []
no_commas f args zero h = refl
no_commas f args (suc i) h = absurd (let no : suc i ≡ 0 = eqb→eq (suc i) 0 (subst T (sym h) tt) in omega arith)

pub with_comma : {A B : Type 0} (f : A → B) (args : List A) (i : ℕ) (first : Bool) (shapes : List Shape) (p q r : Printer) → i < length args → first ≡ eqb i 0 → first ≡ false → Puts p q shapes → Puts q r (comma_sign ∷ [])
    → Puts p r (shapes ++ comma_behind (map f (take i args)))
with_comma f args i first shapes p q r lt is later a b = puts_along p r _ _ (ap (λ (z : List Shape). shapes ++ z) (commas f args i lt (sym is ∙ later))) (puts_then p q r shapes (comma_sign ∷ []) a b)

pub with_no_comma : {A B : Type 0} (f : A → B) (args : List A) (i : ℕ) (first : Bool) (shapes : List Shape) (p q : Printer) → first ≡ eqb i 0 → first ≡ true → Puts p q shapes → Puts p q (shapes ++ comma_behind (map f (take i args)))
with_no_comma f args i first shapes p q is now a = puts_along p q _ _ (ap (λ (z : List Shape). shapes ++ z) (no_commas f args i (sym is ∙ now)) ∙ append-nil shapes) a

-- ---- one more argument

further_argument : (as' : List Argument) (x : Argument) → further_arguments (as' ++ x ∷ []) ≡ further_arguments as' ++ comma_sign ∷ argument_shapes x
unfolding further_arguments
further_argument [] x = append-nil (comma_sign ∷ argument_shapes x)
further_argument (y ∷ as') x = ap (λ (z : List Shape). comma_sign ∷ (argument_shapes y ++ z)) (further_argument as' x) ∙ sym (append_assoc (comma_sign ∷ argument_shapes y) (further_arguments as') (comma_sign ∷ argument_shapes x))

argument_snoc : (as' : List Argument) (x : Argument) → arguments_shapes (as' ++ x ∷ []) ≡ arguments_shapes as' ++ (comma_behind as' ++ argument_shapes x)
unfolding arguments_shapes further_arguments
argument_snoc [] x = append-nil (argument_shapes x)
argument_snoc (y ∷ as') x = ap (λ (z : List Shape). argument_shapes y ++ z) (further_argument as' x) ∙ sym (append_assoc (argument_shapes y) (further_arguments as') (comma_sign ∷ argument_shapes x))

pub no_arguments : (p : Printer) → Puts p p (arguments_shapes [])
unfolding arguments_shapes
no_arguments p = puts_none p

pub one_more_argument : (args : List Arg) (i : ℕ) (x : Arg) (p q r : Printer) → i < length args → x ≡ get_or args i x → Puts p q (arguments_shapes (map arg_meant (take i args)) ++ comma_behind (map arg_meant (take i args)))
    → Puts q r (argument_shapes (arg_meant x)) → Puts p r (arguments_shapes (map arg_meant (take (i + 1) args)))
one_more_argument args i x p q r lt is a b =
    let front : List Argument = map arg_meant (take i args) in
    let grown : map arg_meant (take (i + 1) args) ≡ front ++ arg_meant x ∷ [] = ap (map arg_meant) (take_more args i x lt ∙ ap (λ (y : Arg). take i args ++ y ∷ []) (sym is)) ∙ map_push arg_meant (take i args) x in
    let whole : arguments_shapes (map arg_meant (take (i + 1) args)) ≡ (arguments_shapes front ++ comma_behind front) ++ argument_shapes (arg_meant x)
    = ap arguments_shapes grown ∙ argument_snoc front (arg_meant x) ∙ sym (append_assoc (arguments_shapes front) (comma_behind front) (argument_shapes (arg_meant x))) in
    puts_along p r _ _ whole (puts_then p q r (arguments_shapes front ++ comma_behind front) (argument_shapes (arg_meant x)) a b)

-- ---- statements

pub assign_lines : (n : ℕ) (w : Word) (x : Expr) → statement_lines n (stmt_meant (s.Assign w x)) ≡ statement_lines n (tree.Assign w.name (expr_meant x))
assign_lines n w x = ap (statement_lines n) (assign_view w x)

pub call_lines : (n : ℕ) (w : Word) (args : List Arg) → statement_lines n (stmt_meant (s.Call w args)) ≡ statement_lines n (tree.Call w.name (map arg_meant args))
call_lines n w args = ap (statement_lines n) (call_statement_view w args)

pub if_lines : (n : ℕ) (x : Expr) (body : List Stmt) → statement_lines n (stmt_meant (s.If x body))
    ≡ line n (opening (codes "IF") (expr_meant x) (codes "THEN")) ∷ (statements_lines (n + 2) (tree.statements (map stmt_meant body)) ++ line n (closing (codes "END_IF")) ∷ [])
unfolding statement_lines
if_lines n x body = ap (statement_lines n) (if_view x body)

pub while_lines : (n : ℕ) (x : Expr) (body : List Stmt) → statement_lines n (stmt_meant (s.While x body))
    ≡ line n (opening (codes "WHILE") (expr_meant x) (codes "DO")) ∷ (statements_lines (n + 2) (tree.statements (map stmt_meant body)) ++ line n (closing (codes "END_WHILE")) ∷ [])
unfolding statement_lines
while_lines n x body = ap (statement_lines n) (while_view x body)

pub case_lines : (n : ℕ) (x : Expr) (arms : List Arm) → statement_lines n (stmt_meant (s.Case x arms))
    ≡ line n (opening (codes "CASE") (expr_meant x) (codes "OF")) ∷ (arms_lines (n + 2) (tree.arms (map arm_meant arms)) ++ line n (closing (codes "END_CASE")) ∷ [])
unfolding statement_lines
case_lines n x arms = ap (statement_lines n) (case_view x arms)

statement_snoc : (n : ℕ) (ss : List Statement) (x : Statement) → statements_lines n (tree.statements (ss ++ x ∷ [])) ≡ statements_lines n (tree.statements ss) ++ statement_lines n x
unfolding statement_lines
statement_snoc n [] x = append-nil (statement_lines n x)
statement_snoc n (y ∷ ss) x = ap (λ (z : List Line). statement_lines n y ++ z) (statement_snoc n ss x) ∙ sym (append_assoc (statement_lines n y) (statements_lines n (tree.statements ss)) (statement_lines n x))

abbrev pub arm_lines : ℕ → Labelled → List Line
arm_lines n a = label_line n a.0 ∷ statements_lines (n + 2) (tree.statements a.1)

arm_snoc : (n : ℕ) (arms : List Labelled) (x : Labelled) → arms_lines n (tree.arms (arms ++ x ∷ [])) ≡ arms_lines n (tree.arms arms) ++ arm_lines n x
unfolding statement_lines
arm_snoc n [] x = append-nil (arm_lines n x)
arm_snoc n (y ∷ arms) x = ap (λ (z : List Line). arm_lines n y ++ z) (arm_snoc n arms x) ∙ sym (append_assoc (arm_lines n y) (arms_lines n (tree.arms arms)) (arm_lines n x))

pub no_statements : (n : ℕ) (p : Printer) → Writes p p (statements_lines n tree.no_statement)
unfolding statement_lines
no_statements n p = writes_none p

pub no_arms : (n : ℕ) (p : Printer) → Writes p p (arms_lines n tree.no_arm)
unfolding statement_lines
no_arms n p = writes_none p

pub one_more_statement : (n : ℕ) (body : List Stmt) (i : ℕ) (x : Stmt) (p q r : Printer) → i < length body → x ≡ get_or body i x → Writes p q (statements_lines n (tree.statements (map stmt_meant (take i body))))
    → Writes q r (statement_lines n (stmt_meant x)) → Writes p r (statements_lines n (tree.statements (map stmt_meant (take (i + 1) body))))
one_more_statement n body i x p q r lt is a b =
    let front : List Statement = map stmt_meant (take i body) in
    let grown : map stmt_meant (take (i + 1) body) ≡ front ++ stmt_meant x ∷ [] = ap (map stmt_meant) (take_more body i x lt ∙ ap (λ (y : Stmt). take i body ++ y ∷ []) (sym is)) ∙ map_push stmt_meant (take i body) x in
    let whole : statements_lines n (tree.statements (map stmt_meant (take (i + 1) body))) ≡ statements_lines n (tree.statements front) ++ statement_lines n (stmt_meant x)
    = ap (λ z. statements_lines n (tree.statements z)) grown ∙ statement_snoc n front (stmt_meant x) in
    writes_along p r _ _ whole (writes_then p q r (statements_lines n (tree.statements front)) (statement_lines n (stmt_meant x)) a b)

pub one_more_arm : (n : ℕ) (arms : List Arm) (i : ℕ) (x : Arm) (p q r : Printer) → i < length arms → x ≡ get_or arms i x → Writes p q (arms_lines n (tree.arms (map arm_meant (take i arms))))
    → Writes q r (arm_lines n (arm_meant x)) → Writes p r (arms_lines n (tree.arms (map arm_meant (take (i + 1) arms))))
one_more_arm n arms i x p q r lt is a b =
    let front : List Labelled = map arm_meant (take i arms) in
    let grown : map arm_meant (take (i + 1) arms) ≡ front ++ arm_meant x ∷ [] = ap (map arm_meant) (take_more arms i x lt ∙ ap (λ (y : Arm). take i arms ++ y ∷ []) (sym is)) ∙ map_push arm_meant (take i arms) x in
    let whole : arms_lines n (tree.arms (map arm_meant (take (i + 1) arms))) ≡ arms_lines n (tree.arms front) ++ arm_lines n (arm_meant x)
    = ap (λ z. arms_lines n (tree.arms z)) grown ∙ arm_snoc n front (arm_meant x) in
    writes_along p r _ _ whole (writes_then p q r (arms_lines n (tree.arms front)) (arm_lines n (arm_meant x)) a b)
