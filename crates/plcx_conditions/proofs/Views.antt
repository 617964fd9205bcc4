-- The tree with places, without its places, is what the unit means.
use Rattle.std.proofs.Common.{◌≡◌, List, [], ◌∷◌, map, Option, Some, None, refl, sym, ap, ap₂, subst, ◌∙◌}
use Rattle.plcx_types.specs.declared.span.Span.{Span}
use Rattle.plcx_types.specs.Value.{Value}
use Rattle.std.specs.Option.{option_map}
use Rattle.plcx_meaning.specs.Tree as tree
use Rattle.plcx_st.specs.declared.tree.Word as word
use Rattle.plcx_st.specs.declared.tree.Number as number
use Rattle.plcx_st.specs.declared.tree.Op.{Op}
use Rattle.plcx_st.specs.declared.tree.Decl.{Decl}
use Rattle.plcx_st.specs.declared.tree.TextBlock.{TextBlock}
use Rattle.plcx_st.specs.declared.tree.Expr.{Expr, roll-Expr, map-Expr}
use Rattle.plcx_st.specs.declared.tree.Expr.TheVariants as e
use Rattle.plcx_st.specs.declared.tree.Expr.TheOpen.{Expr-F}
use Rattle.plcx_st.specs.declared.tree.Expr.TheFolds.{fold-roll-Expr, ind-Expr}
use Rattle.plcx_st.specs.declared.tree.Arg.{Arg}
use Rattle.plcx_st.specs.declared.tree.Arm.{Arm, roll-Arm}
use Rattle.plcx_st.specs.declared.tree.Stmt.{Stmt, roll-Stmt, map-Stmt}
use Rattle.plcx_st.specs.declared.tree.Stmt.TheVariants as s
use Rattle.plcx_st.specs.declared.tree.Stmt.TheOpen.{Stmt-F, Arm-F}
use Rattle.plcx_st.specs.declared.tree.Stmt.TheFolds.{fold-roll-Stmt, fold-roll-Arm, fold-Arm, map-Arm, fold_out-Arm, ind-Stmt}
use Rattle.plcx_st.specs.declared.tree.PouText.{PouText}
use Rattle.plcx_st.specs.declared.tree.Unit as unit
use Rattle.plcx_st.specs.Meant as meaning
use Rattle.plcx_st.specs.Meant.{number_meant, op_meant, expr_step, expr_meant, arg_meant, stmt_meant, decl_meant, block_meant, pou_meant, meant}
use Rattle.plcx_conditions.specs.Placed.{Literal, Expression, Number, Name, Member, Apply, Not, Binary, expressions, bare_expression, bare_expressions, bare_argument, Statement, Assign, Call, If, While, Case, Labelled, statements, arms, bare_statement, bare_statements, bare_arms, bare_declaration, bare_block, bare_pou, bare}
use Rattle.plcx_conditions.specs.Places.{placed_word, placed_number, expression_step, placed_expression, placed_argument, arm_step, statement_step, placed_statement, placed_declaration, placed_block, placed_pou, placed}

-- ---- expressions, by their forms

pub number_view : (v : number.Number) → placed_expression (e.Number v) ≡ Number (placed_number v)
number_view v = ap placed_expression (sym (e.rolls-Number v)) ∙ fold-roll-Expr Expression expression_step (Expr-F.Number v)

pub name_view : (w : word.Word) → placed_expression (e.Name w) ≡ Name (placed_word w)
name_view w = ap placed_expression (sym (e.rolls-Name w)) ∙ fold-roll-Expr Expression expression_step (Expr-F.Name w)

pub member_view : (i o : word.Word) → placed_expression (e.Member i o) ≡ Member (placed_word i) (placed_word o)
member_view i o = ap placed_expression (sym (e.rolls-Member i o)) ∙ fold-roll-Expr Expression expression_step (Expr-F.Member i o)

pub call_view : (w : word.Word) (es : List Expr) → placed_expression (e.Call w es) ≡ Apply (placed_word w) (expressions (map placed_expression es))
call_view w es = ap placed_expression (sym (e.rolls-Call w es)) ∙ fold-roll-Expr Expression expression_step (Expr-F.Call w es)

pub not_view : (x : Expr) (span : Span) → placed_expression (e.Not x span) ≡ Not span.start (placed_expression x)
not_view x span = ap placed_expression (sym (e.rolls-Not x span)) ∙ fold-roll-Expr Expression expression_step (Expr-F.Not x span)

pub binary_view : (o : Op) (x y : Expr) → placed_expression (e.Binary o x y) ≡ Binary (op_meant o) (placed_expression x) (placed_expression y)
binary_view o x y = ap placed_expression (sym (e.rolls-Binary o x y)) ∙ fold-roll-Expr Expression expression_step (Expr-F.Binary o x y)

abbrev IsMeant : Expr → Type 0
IsMeant x = bare_expression (placed_expression x) ≡ expr_meant x

-- some expressions, each of which is so
list_bare : {S : Type 0} (to : S → Expr) → ((s : S) → IsMeant (to s)) → (ss : List S) → bare_expressions (expressions (map placed_expression (map to ss))) ≡ tree.expressions (map expr_meant (map to ss))
list_bare to good [] = refl
list_bare to good (s ∷ ss) = ap₂ tree.expression (good s) (list_bare to good ss)

layer : {S : Type 0} (to : S → Expr) → ((s : S) → IsMeant (to s)) → (y : Expr-F S) → IsMeant (roll-Expr (map-Expr S Expr to y))
layer to good (Expr-F.Number v) = ap bare_expression (fold-roll-Expr Expression expression_step (Expr-F.Number v)) ∙ sym (fold-roll-Expr tree.Expression expr_step (Expr-F.Number v))
layer to good (Expr-F.Name w) = ap bare_expression (fold-roll-Expr Expression expression_step (Expr-F.Name w)) ∙ sym (fold-roll-Expr tree.Expression expr_step (Expr-F.Name w))
layer to good (Expr-F.Member i o) = ap bare_expression (fold-roll-Expr Expression expression_step (Expr-F.Member i o)) ∙ sym (fold-roll-Expr tree.Expression expr_step (Expr-F.Member i o))
layer to good (Expr-F.Call f ss) =
    ap bare_expression (fold-roll-Expr Expression expression_step (Expr-F.Call f (map to ss)))
    ∙ ap (tree.Apply f.name) (list_bare to good ss)
    ∙ sym (fold-roll-Expr tree.Expression expr_step (Expr-F.Call f (map to ss)))
layer to good (Expr-F.Not s span) =
    ap bare_expression (fold-roll-Expr Expression expression_step (Expr-F.Not (to s) span)) ∙ ap tree.Not (good s) ∙ sym (fold-roll-Expr tree.Expression expr_step (Expr-F.Not (to s) span))
layer to good (Expr-F.Binary o s t) =
    ap bare_expression (fold-roll-Expr Expression expression_step (Expr-F.Binary o (to s) (to t))) ∙ ap₂ (tree.Binary (op_meant o)) (good s) (good t) ∙ sym (fold-roll-Expr tree.Expression expr_step (Expr-F.Binary o (to s) (to t)))

pub expression_bare : (x : Expr) → IsMeant x
expression_bare = ind-Expr IsMeant (λ x y is. subst (λ z. IsMeant (roll-Expr z)) is (layer (λ e. e.0) (λ e. e.1) y))

-- ---- statements, by their forms

abbrev pub placed_labelled : Arm → Labelled
placed_labelled a = record { label = a.label; at = a.span.start; body = map placed_statement a.body }

pub assign_view : (w : word.Word) (x : Expr) → placed_statement (s.Assign w x) ≡ Assign (placed_word w) (placed_expression x)
assign_view w x = ap placed_statement (sym (s.rolls-Assign w x)) ∙ fold-roll-Stmt Statement Labelled statement_step arm_step (Stmt-F.Assign w x)

pub call_statement_view : (w : word.Word) (args : List Arg) → placed_statement (s.Call w args) ≡ Call (placed_word w) (map placed_argument args)
call_statement_view w args = ap placed_statement (sym (s.rolls-Call w args)) ∙ fold-roll-Stmt Statement Labelled statement_step arm_step (Stmt-F.Call w args)

pub if_view : (x : Expr) (body : List Stmt) → placed_statement (s.If x body) ≡ If (placed_expression x) (statements (map placed_statement body))
if_view x body = ap placed_statement (sym (s.rolls-If x body)) ∙ fold-roll-Stmt Statement Labelled statement_step arm_step (Stmt-F.If x body)

pub while_view : (x : Expr) (body : List Stmt) → placed_statement (s.While x body) ≡ While (placed_expression x) (statements (map placed_statement body))
while_view x body = ap placed_statement (sym (s.rolls-While x body)) ∙ fold-roll-Stmt Statement Labelled statement_step arm_step (Stmt-F.While x body)

arm_view : (a : Arm) → fold-Arm Statement Labelled statement_step arm_step a ≡ placed_labelled a
arm_view a = fold_out-Arm Statement Labelled statement_step arm_step a

each_arm : (as_ : List Arm) → map (fold-Arm Statement Labelled statement_step arm_step) as_ ≡ map placed_labelled as_
each_arm [] = refl
each_arm (a ∷ as_) = ap₂ (λ (x : Labelled) (xs : List Labelled). x ∷ xs) (arm_view a) (each_arm as_)

pub case_view : (x : Expr) (as_ : List Arm) → placed_statement (s.Case x as_) ≡ Case (placed_expression x) (arms (map placed_labelled as_))
case_view x as_ = ap placed_statement (sym (s.rolls-Case x as_)) ∙ fold-roll-Stmt Statement Labelled statement_step arm_step (Stmt-F.Case x as_) ∙ ap (λ (z : List Labelled). Case (placed_expression x) (arms z)) (each_arm as_)

-- ---- a statement without its places is what it means

abbrev IsMeantSo : Stmt → Type 0
IsMeantSo x = bare_statement (placed_statement x) ≡ stmt_meant x

abbrev bare_labelled : Labelled → meaning.Labelled
bare_labelled a = (a.label, map bare_statement a.body)

abbrev IsMeantArm : Arm → Type 0
IsMeantArm a = bare_labelled (fold-Arm Statement Labelled statement_step arm_step a) ≡ fold-Arm tree.Statement meaning.Labelled meaning.stmt_step meaning.arm_step a

argument_bare : (a : Arg) → bare_argument (placed_argument a) ≡ arg_meant a
argument_bare a = ap (λ (e : tree.Expression). let x : tree.Argument = record { formal = a.formal.name; value = e } in x) (expression_bare a.value)

arguments_bare : (args : List Arg) → map bare_argument (map placed_argument args) ≡ map arg_meant args
arguments_bare [] = refl
arguments_bare (a ∷ args) = ap₂ (λ (x : tree.Argument) (xs : List tree.Argument). x ∷ xs) (argument_bare a) (arguments_bare args)

-- statements one by one, and as statements
each_bare : (ss : List Statement) → bare_statements (statements ss) ≡ tree.statements (map bare_statement ss)
each_bare [] = refl
each_bare (s ∷ ss) = ap (tree.statement (bare_statement s)) (each_bare ss)

body_bare : {S : Type 0} (to : S → Stmt) → ((s : S) → IsMeantSo (to s)) → (ss : List S) → map bare_statement (map placed_statement (map to ss)) ≡ map stmt_meant (map to ss)
body_bare to good [] = refl
body_bare to good (s ∷ ss) = ap₂ (λ (x : tree.Statement) (xs : List tree.Statement). x ∷ xs) (good s) (body_bare to good ss)

statements_bare : {S : Type 0} (to : S → Stmt) → ((s : S) → IsMeantSo (to s)) → (ss : List S) → bare_statements (statements (map placed_statement (map to ss))) ≡ tree.statements (map stmt_meant (map to ss))
statements_bare to good ss = each_bare (map placed_statement (map to ss)) ∙ ap tree.statements (body_bare to good ss)

arms_bare :
    {A : Type 0} (to : A → Arm) → ((a : A) → IsMeantArm (to a)) → (as_ : List A)
    → bare_arms (arms (map (fold-Arm Statement Labelled statement_step arm_step) (map to as_))) ≡ tree.arms (map (fold-Arm tree.Statement meaning.Labelled meaning.stmt_step meaning.arm_step) (map to as_))
arms_bare to good [] = refl
arms_bare to good (a ∷ as_) =
    let x = fold-Arm Statement Labelled statement_step arm_step (to a) in
    ap₂ (tree.arm x.label) (each_bare x.body) (arms_bare to good as_)
    ∙ ap (λ (z : meaning.Labelled). tree.arm z.0 (tree.statements z.1) (tree.arms (map (fold-Arm tree.Statement meaning.Labelled meaning.stmt_step meaning.arm_step) (map to as_)))) (good a)

statement_layer :
    {S A : Type 0} (to : S → Stmt) → ((s : S) → IsMeantSo (to s)) → (label : A → Arm) → ((a : A) → IsMeantArm (label a))
    → (y : Stmt-F S A) → IsMeantSo (roll-Stmt (map-Stmt S A Stmt Arm to label y))
statement_layer to good label fine (Stmt-F.Assign w x) =
    ap bare_statement (fold-roll-Stmt Statement Labelled statement_step arm_step (Stmt-F.Assign w x)) ∙ ap (tree.Assign w.name) (expression_bare x)
    ∙ sym (fold-roll-Stmt tree.Statement meaning.Labelled meaning.stmt_step meaning.arm_step (Stmt-F.Assign w x))
statement_layer to good label fine (Stmt-F.Call w args) =
    ap bare_statement (fold-roll-Stmt Statement Labelled statement_step arm_step (Stmt-F.Call w args)) ∙ ap (tree.Call w.name) (arguments_bare args)
    ∙ sym (fold-roll-Stmt tree.Statement meaning.Labelled meaning.stmt_step meaning.arm_step (Stmt-F.Call w args))
statement_layer to good label fine (Stmt-F.If x ss) =
    ap bare_statement (fold-roll-Stmt Statement Labelled statement_step arm_step (Stmt-F.If x (map to ss))) ∙ ap₂ tree.If (expression_bare x) (statements_bare to good ss)
    ∙ sym (fold-roll-Stmt tree.Statement meaning.Labelled meaning.stmt_step meaning.arm_step (Stmt-F.If x (map to ss)))
statement_layer to good label fine (Stmt-F.While x ss) =
    ap bare_statement (fold-roll-Stmt Statement Labelled statement_step arm_step (Stmt-F.While x (map to ss))) ∙ ap₂ tree.While (expression_bare x) (statements_bare to good ss)
    ∙ sym (fold-roll-Stmt tree.Statement meaning.Labelled meaning.stmt_step meaning.arm_step (Stmt-F.While x (map to ss)))
statement_layer to good label fine (Stmt-F.Case x as_) =
    ap bare_statement (fold-roll-Stmt Statement Labelled statement_step arm_step (Stmt-F.Case x (map label as_))) ∙ ap₂ tree.Case (expression_bare x) (arms_bare label fine as_)
    ∙ sym (fold-roll-Stmt tree.Statement meaning.Labelled meaning.stmt_step meaning.arm_step (Stmt-F.Case x (map label as_)))

arm_layer :
    {S A : Type 0} (to : S → Stmt) → ((s : S) → IsMeantSo (to s)) → (label : A → Arm) → ((a : A) → IsMeantArm (label a))
    → (y : Arm-F S A) → IsMeantArm (roll-Arm (map-Arm S A Stmt Arm to label y))
arm_layer {S = S} {A = A} to good label fine y =
    ap bare_labelled (fold-roll-Arm Statement Labelled statement_step arm_step (map-Arm S A Stmt Arm to label y)) ∙ ap (λ (ss : List tree.Statement). (y.label, ss)) (body_bare to good y.body)
    ∙ sym (fold-roll-Arm tree.Statement meaning.Labelled meaning.stmt_step meaning.arm_step (map-Arm S A Stmt Arm to label y))

pub statement_bare : (x : Stmt) → IsMeantSo x
statement_bare =
    ind-Stmt IsMeantSo IsMeantArm
    (λ x y is. subst (λ z. IsMeantSo (roll-Stmt z)) is (statement_layer (λ s. s.0) (λ s. s.1) (λ a. a.0) (λ a. a.1) y))
    (λ x y is. subst (λ z. IsMeantArm (roll-Arm z)) is (arm_layer (λ s. s.0) (λ s. s.1) (λ a. a.0) (λ a. a.1) y))

-- ---- a unit

declaration_bare : (d : Decl) → bare_declaration (placed_declaration d) ≡ decl_meant d
declaration_bare d = ap (λ (v : Option Value). let x : tree.Declaration = record { name = d.name.name; address = d.address; ty = d.ty.name; initial = v } in x) (initial d.initial)
  where
    initial : (v : Option number.Number) → option_map (λ (l : Literal). l.value) (option_map placed_number v) ≡ option_map number_meant v
    initial None = refl
    initial (Some v) = refl

block_bare : (b : TextBlock) → bare_block (placed_block b) ≡ block_meant b
block_bare b = ap (λ (ds : List tree.Declaration). let x : tree.Block = record { class = meaning.class_meant b.class; mark = meaning.mark_meant b.mark; declarations = ds } in x) (all b.decls)
  where
    all : (ds : List Decl) → map bare_declaration (map placed_declaration ds) ≡ map decl_meant ds
    all [] = refl
    all (d ∷ ds) = ap₂ (λ (x : tree.Declaration) (xs : List tree.Declaration). x ∷ xs) (declaration_bare d) (all ds)

pou_bare : (p : PouText) → bare_pou (placed_pou p) ≡ pou_meant p
pou_bare p = ap₂ (λ (bs : List tree.Block) (ss : List tree.Statement). let x : tree.PouText = record { kind = meaning.kind_meant p.kind; name = p.name.name; blocks = bs; body = ss } in x) (all p.blocks) (each p.body)
  where
    all : (bs : List TextBlock) → map bare_block (map placed_block bs) ≡ map block_meant bs
    all [] = refl
    all (b ∷ bs) = ap₂ (λ (x : tree.Block) (xs : List tree.Block). x ∷ xs) (block_bare b) (all bs)

    each : (ss : List Stmt) → map bare_statement (map placed_statement ss) ≡ map stmt_meant ss
    each [] = refl
    each (s ∷ ss) = ap₂ (λ (x : tree.Statement) (xs : List tree.Statement). x ∷ xs) (statement_bare s) (each ss)

-- a unit without its places is what it means
pub unit_bare : (u : unit.Unit) → bare (placed u) ≡ meant u
unit_bare u = all u.pous
  where
    all : (ps : List PouText) → map bare_pou (map placed_pou ps) ≡ map pou_meant ps
    all [] = refl
    all (p ∷ ps) = ap₂ (λ (x : tree.PouText) (xs : List tree.PouText). x ∷ xs) (pou_bare p) (all ps)
