-- Languages of the grammar, tokens of each terminal, and the shortest lists of tokens.
use Rattle.std.proofs.Common.{◌≡◌, ℕ, List, [], ◌∷◌, refl}
use Rattle.std.specs.Prelude.{codes}
use Rattle.plcx_lex.specs.declared.token.TokenKind.{TokenKind}
use Rattle.plcx_lex.specs.declared.token.TokenKind.TheVariants as kind
use Rattle.plcx_lex.specs.Token.{Token}
use Rattle.plcx_types.specs.Literal as literals
use Rattle.plcx_lex.specs.Number as numbers
use Rattle.plcx_lex.specs.Terminal.{terminal}
use Rattle.plcx_lex.specs.declared.terminal.Terminal.{Terminal}
use Rattle.plcx_lex.specs.declared.terminal.Terminal.TheVariants as t
use Rattle.plcx_st.specs.declared.tree.Expr.{Expr}
use Rattle.plcx_st.specs.declared.tree.Arg.{Arg}
use Rattle.plcx_st.specs.declared.tree.Arm.{Arm}
use Rattle.plcx_st.specs.declared.tree.Stmt.{Stmt}
use Rattle.plcx_st.specs.declared.tree.PouText.{PouText}
use Rattle.plcx_st.specs.declared.tree.TextKind.{TextKind}
use Rattle.plcx_st.specs.declared.tree.TextKind.TheVariants as text
use Rattle.plcx_st.specs.Grammar.{IsExpr, AreExprs, IsArg, AreArgs, IsStmt, AreStmts, AreArms, Each, IsInitial, IsDecl, IsBareDecl, IsBlock, IsPou, ArePous, ending}
use Rattle.plcx_st.specs.Grammar as g
use Rattle.plcx_read.proofs.Completes.{Language}

-- ---- languages

abbrev pub Exprs : ℕ → Language
Exprs least w d = (x : Expr) × IsExpr least w x d

abbrev pub ExprLists : Language
ExprLists w d = (es : List Expr) × AreExprs w es d

abbrev pub Args : Language
Args w d = (x : Arg) × IsArg w x d

abbrev pub ArgLists : Language
ArgLists w d = (es : List Arg) × AreArgs w es d

abbrev pub Stmts : Language
Stmts w d = (x : Stmt) × IsStmt w x d

abbrev pub StmtLists : Language
StmtLists w d = (ss : List Stmt) × AreStmts w ss d

abbrev pub ArmLists : Language
ArmLists w d = (as_ : List Arm) × AreArms w as_ d

-- what has no depth of its own
abbrev pub Flat : {A : Type 0} → (List Token → A → Type 0) → Language
Flat {A} Is w d = (x : A) × Is w x

abbrev pub Pous : Language
Pous w d = (p : PouText) × IsPou w p d

abbrev pub PouLists : Language
PouLists w d = (ps : List PouText) × ArePous w ps d

-- ---- tokens

abbrev spelt : TokenKind → List ℕ → Token
spelt k bytes = record { kind = k; text = bytes; span = record { start = 0; «end» = 0 } }

-- a token of a terminal
pub record Made (q : Terminal) : Type 0 where
  pub token : Token
  pub is : terminal token ≡ q

abbrev pub a_name : Made t.Name
unfolding terminal
a_name = record { token = spelt kind.Name (codes "a"); is = refl }

abbrev pub a_number : Made t.Number
unfolding terminal
a_number = record { token = spelt kind.Number (codes "true"); is = refl }

abbrev pub a_address : Made t.Address
unfolding terminal
a_address = record { token = spelt kind.Address (codes "%I"); is = refl }

abbrev pub a_digits : Made t.Digits
unfolding terminal
a_digits = record { token = spelt kind.Digits (codes "0"); is = refl }

abbrev pub a_open : Made t.Open
unfolding terminal
a_open = record { token = spelt kind.Sign (codes "("); is = refl }

abbrev pub a_close : Made t.Close
unfolding terminal
a_close = record { token = spelt kind.Sign (codes ")"); is = refl }

abbrev pub a_assign : Made t.Assign
unfolding terminal
a_assign = record { token = spelt kind.Sign (codes ":="); is = refl }

abbrev pub a_semicolon : Made t.Semicolon
unfolding terminal
a_semicolon = record { token = spelt kind.Sign (codes ";"); is = refl }

abbrev pub a_colon : Made t.Colon
unfolding terminal
a_colon = record { token = spelt kind.Sign (codes ":"); is = refl }

abbrev pub a_then : Made t.Then
unfolding terminal
a_then = record { token = spelt kind.Keyword (codes "then"); is = refl }

abbrev pub a_end_if : Made t.EndIf
unfolding terminal
a_end_if = record { token = spelt kind.Keyword (codes "end_if"); is = refl }

abbrev pub a_do : Made t.Do
unfolding terminal
a_do = record { token = spelt kind.Keyword (codes "do"); is = refl }

abbrev pub a_end_while : Made t.EndWhile
unfolding terminal
a_end_while = record { token = spelt kind.Keyword (codes "end_while"); is = refl }

abbrev pub a_of : Made t.Of
unfolding terminal
a_of = record { token = spelt kind.Keyword (codes "of"); is = refl }

abbrev pub a_end_case : Made t.EndCase
unfolding terminal
a_end_case = record { token = spelt kind.Keyword (codes "end_case"); is = refl }

abbrev pub a_var : Made t.Var
unfolding terminal
a_var = record { token = spelt kind.Keyword (codes "var"); is = refl }

abbrev pub a_end_var : Made t.EndVar
unfolding terminal
a_end_var = record { token = spelt kind.Keyword (codes "end_var"); is = refl }

abbrev pub a_program : Made t.Program
unfolding terminal
a_program = record { token = spelt kind.Keyword (codes "program"); is = refl }

abbrev pub a_end_program : Made t.EndProgram
unfolding terminal
a_end_program = record { token = spelt kind.Keyword (codes "end_program"); is = refl }

abbrev pub a_end_function_block : Made t.EndFunctionBlock
unfolding terminal
a_end_function_block = record { token = spelt kind.Keyword (codes "end_function_block"); is = refl }

abbrev pub an_ending : (k : TextKind) → Made (ending k)
an_ending text.Program = a_end_program
an_ending text.FunctionBlock = a_end_function_block

-- ---- the shortest of each

abbrev pub a_value : (least : ℕ) → Exprs least (a_name.token ∷ []) 1
a_value least = (_, g.name a_name.is)

abbrev pub some_values : ExprLists (a_name.token ∷ []) 1
some_values = (_, g.one_expr (g.name a_name.is))

abbrev pub an_argument : Args (a_name.token ∷ a_assign.token ∷ a_name.token ∷ []) 1
an_argument = (_, g.arg a_name.is a_assign.is (g.name a_name.is))

abbrev pub a_call : Stmts (a_name.token ∷ a_open.token ∷ a_close.token ∷ a_semicolon.token ∷ []) 1
a_call = (_, g.calls_bare a_name.is a_open.is a_close.is a_semicolon.is)

pub a_start : (x : Token) → terminal x ≡ t.Assign → Flat IsInitial (x ∷ a_number.token ∷ []) 0
unfolding a_number
a_start x is = (_, g.initial is a_number.is (numbers.truth literals.truth))

abbrev pub a_pou : Pous (a_program.token ∷ a_name.token ∷ a_end_program.token ∷ []) 1
a_pou = (_, g.pou text.Program a_end_program.token {xs = []} {ys = []} a_program.is a_name.is g.no_more g.no_stmt a_end_program.is)
