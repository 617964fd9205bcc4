-- What tokens stand for, by the cases of the grammar. The last number is the depth.
use Rattle.std.specs.Prelude.{◌≡◌, ℕ, ℤ, suc, ◌≤◌, max, min, map, List, [], ◌∷◌, ◌++◌, Option, Some, None}
use Rattle.std.specs.Char.{to_ascii_uppercase}
use Rattle.plcx_types.specs.declared.ty.Ty.{Ty}
use Rattle.plcx_types.specs.Numeral.{number_from}
use Rattle.plcx_types.specs.Limits.{max_text_depth}
use Rattle.plcx_lex.specs.Token.{Token}
use Rattle.plcx_lex.specs.Number.{IsLiteral}
use Rattle.plcx_lex.specs.Terminal.{terminal}
use Rattle.plcx_lex.specs.declared.terminal.Terminal.{Terminal}
use Rattle.plcx_lex.specs.declared.terminal.Terminal.TheVariants as t
use Rattle.plcx_st.specs.declared.tree.Word.{Word}
use Rattle.plcx_st.specs.declared.tree.Number.{Number}
use Rattle.plcx_st.specs.declared.tree.TextKind.{TextKind}
use Rattle.plcx_st.specs.declared.tree.TextKind.TheVariants as kind
use Rattle.plcx_st.specs.declared.tree.TextClass.{TextClass}
use Rattle.plcx_st.specs.declared.tree.TextClass.TheVariants as class
use Rattle.plcx_st.specs.declared.tree.Mark.{Mark}
use Rattle.plcx_st.specs.declared.tree.Mark.TheVariants as mark
use Rattle.plcx_st.specs.declared.tree.Decl.{Decl}
use Rattle.plcx_st.specs.declared.tree.TextBlock.{TextBlock}
use Rattle.plcx_st.specs.declared.tree.Op.{Op}
use Rattle.plcx_st.specs.declared.tree.Op.TheVariants as op
use Rattle.plcx_st.specs.declared.tree.Expr.{Expr}
use Rattle.plcx_st.specs.declared.tree.Expr.TheVariants as e
use Rattle.plcx_st.specs.declared.tree.Arg.{Arg}
use Rattle.plcx_st.specs.declared.tree.Arm.{Arm}
use Rattle.plcx_st.specs.declared.tree.Stmt.{Stmt}
use Rattle.plcx_st.specs.declared.tree.Stmt.TheVariants as s
use Rattle.plcx_st.specs.declared.tree.PouText.{PouText}
use Rattle.plcx_st.specs.declared.tree.Unit as tree
use Rattle.plcx_st.specs.Meant.{op_meant}
use Rattle.plcx_st.specs.Binding as binding
use Rattle.plcx_st.specs.Binding.{tightest}

-- ---- words and numbers, with their places

abbrev pub word : Token → Word
word w = record { name = w.text; span = w.span }

abbrev pub number : Token → Ty → ℤ → Number
number v ty n = record { ty = ty; n = n; span = v.span }

-- the number of decimal digits, or 2147483648 where it is greater
abbrev pub label : Token → ℕ
label l = min (number_from 10 0 l.text) 2147483648

-- ---- expressions

-- the operator that a terminal is
abbrev pub operator : Terminal → Option Op
operator t.Or = Some op.Or
operator t.Xor = Some op.Xor
operator t.And = Some op.And
operator t.Equal = Some op.Equal
operator t.NotEqual = Some op.NotEqual
operator t.Less = Some op.Less
operator t.Greater = Some op.Greater
operator t.LessOrEqual = Some op.LessOrEqual
operator t.GreaterOrEqual = Some op.GreaterOrEqual
operator t.Plus = Some op.Plus
operator t.Minus = Some op.Minus
operator t.Times = Some op.Times
operator t.Divide = Some op.Divide
operator t.Mod = Some op.Mod
operator _ = None

-- how tightly it binds
abbrev pub level : Op → ℕ
level o = binding.level (op_meant o)

mutual
  -- an expression whose operators outside of brackets bind at least as tightly as the first number
  pub data IsExpr : ℕ → List Token → Expr → ℕ → Type 0 where
    literal : {n : ℕ} {v : Token} {ty : Ty} {z : ℤ} → terminal v ≡ t.Number → IsLiteral v.text ty z → IsExpr n (v ∷ []) (e.Number (number v ty z)) 1
    name : {n : ℕ} {w : Token} → terminal w ≡ t.Name → IsExpr n (w ∷ []) (e.Name (word w)) 1
    member : {n : ℕ} {i p o : Token} → terminal i ≡ t.Name → terminal p ≡ t.Dot → terminal o ≡ t.Name → IsExpr n (i ∷ p ∷ o ∷ []) (e.Member (word i) (word o)) 1
    call : {n : ℕ} {f b : Token} (c : Token) {xs : List Token} {es : List Expr} {d : ℕ}
        → terminal f ≡ t.Name → terminal b ≡ t.Open → AreExprs xs es d → terminal c ≡ t.Close → IsExpr n (f ∷ b ∷ (xs ++ c ∷ [])) (e.Call (word f) es) (suc d)
    bracket : {n : ℕ} {b : Token} (c : Token) {xs : List Token} {x : Expr} {d : ℕ}
        → terminal b ≡ t.Open → IsExpr 0 xs x d → terminal c ≡ t.Close → IsExpr n (b ∷ (xs ++ c ∷ [])) x (suc d)
    negation : {n : ℕ} {w : Token} {xs : List Token} {x : Expr} {d : ℕ} → terminal w ≡ t.Not → IsExpr tightest xs x d → IsExpr n (w ∷ xs) (e.Not x w.span) (suc d)
    binary : {n : ℕ} {o : Op} (w : Token) {xs ys : List Token} {x y : Expr} {d c : ℕ}
        → n ≤ level o → IsExpr (level o) xs x d → operator (terminal w) ≡ Some o → IsExpr (suc (level o)) ys y c → IsExpr n (xs ++ w ∷ ys) (e.Binary o x y) (suc (max d c))

  -- one expression or more, parted by commas
  pub data AreExprs : List Token → List Expr → ℕ → Type 0 where
    one_expr : {xs : List Token} {x : Expr} {d : ℕ} → IsExpr 0 xs x d → AreExprs xs (x ∷ []) d
    more_exprs : (c : Token) {xs ys : List Token} {x : Expr} {es : List Expr} {d f : ℕ}
        → IsExpr 0 xs x d → terminal c ≡ t.Comma → AreExprs ys es f → AreExprs (xs ++ c ∷ ys) (x ∷ es) (max d f)

-- ---- statements

pub data IsArg : List Token → Arg → ℕ → Type 0 where
  arg : {w a : Token} {xs : List Token} {x : Expr} {d : ℕ} → terminal w ≡ t.Name → terminal a ≡ t.Assign → IsExpr 0 xs x d → IsArg (w ∷ a ∷ xs) (record { formal = word w; value = x }) d

-- one or more, parted by commas
pub data AreArgs : List Token → List Arg → ℕ → Type 0 where
  one_arg : {xs : List Token} {x : Arg} {d : ℕ} → IsArg xs x d → AreArgs xs (x ∷ []) d
  more_args : (c : Token) {xs ys : List Token} {x : Arg} {es : List Arg} {d f : ℕ} → IsArg xs x d → terminal c ≡ t.Comma → AreArgs ys es f → AreArgs (xs ++ c ∷ ys) (x ∷ es) (max d f)

mutual
  pub data IsStmt : List Token → Stmt → ℕ → Type 0 where
    assigns : {w a : Token} (z : Token) {xs : List Token} {x : Expr} {d : ℕ}
        → terminal w ≡ t.Name → terminal a ≡ t.Assign → IsExpr 0 xs x d → terminal z ≡ t.Semicolon → IsStmt (w ∷ a ∷ (xs ++ z ∷ [])) (s.Assign (word w) x) (suc d)
    calls_bare : {w b c z : Token} → terminal w ≡ t.Name → terminal b ≡ t.Open → terminal c ≡ t.Close → terminal z ≡ t.Semicolon → IsStmt (w ∷ b ∷ c ∷ z ∷ []) (s.Call (word w) []) 1
    calls : {w b : Token} (c z : Token) {xs : List Token} {es : List Arg} {d : ℕ}
        → terminal w ≡ t.Name → terminal b ≡ t.Open → AreArgs xs es d → terminal c ≡ t.Close → terminal z ≡ t.Semicolon → IsStmt (w ∷ b ∷ (xs ++ c ∷ z ∷ [])) (s.Call (word w) es) (suc d)
    chooses : {h : Token} (m c z : Token) {xs ys : List Token} {x : Expr} {ss : List Stmt} {d f : ℕ}
        → terminal h ≡ t.If → IsExpr 0 xs x d → terminal m ≡ t.Then → AreStmts ys ss f → terminal c ≡ t.EndIf → terminal z ≡ t.Semicolon
        → IsStmt (h ∷ (xs ++ m ∷ (ys ++ c ∷ z ∷ []))) (s.If x ss) (suc (max d f))
    repeats : {h : Token} (m c z : Token) {xs ys : List Token} {x : Expr} {ss : List Stmt} {d f : ℕ}
        → terminal h ≡ t.While → IsExpr 0 xs x d → terminal m ≡ t.Do → AreStmts ys ss f → terminal c ≡ t.EndWhile → terminal z ≡ t.Semicolon
        → IsStmt (h ∷ (xs ++ m ∷ (ys ++ c ∷ z ∷ []))) (s.While x ss) (suc (max d f))
    selects : {h : Token} (m c z : Token) {xs ys : List Token} {x : Expr} {arms : List Arm} {d f : ℕ}
        → terminal h ≡ t.Case → IsExpr 0 xs x d → terminal m ≡ t.Of → AreArms ys arms f → terminal c ≡ t.EndCase → terminal z ≡ t.Semicolon
        → IsStmt (h ∷ (xs ++ m ∷ (ys ++ c ∷ z ∷ []))) (s.Case x arms) (suc (max d f))

  pub data AreStmts : List Token → List Stmt → ℕ → Type 0 where
    no_stmt : AreStmts [] [] 0
    stmt : {xs ys : List Token} {x : Stmt} {ss : List Stmt} {d f : ℕ} → IsStmt xs x d → AreStmts ys ss f → AreStmts (xs ++ ys) (x ∷ ss) (max d f)

  pub data AreArms : List Token → List Arm → ℕ → Type 0 where
    no_arm : AreArms [] [] 0
    arm : {l m : Token} {xs ys : List Token} {ss : List Stmt} {others : List Arm} {d f : ℕ}
        → terminal l ≡ t.Digits → terminal m ≡ t.Colon → AreStmts xs ss d → AreArms ys others f
        → AreArms (l ∷ m ∷ (xs ++ ys)) (record { label = label l; span = l.span; body = ss } ∷ others) (max d f)

-- ---- declarations

-- things one after another
pub data Each {A : Type 0} (Is : List Token → A → Type 0) : List Token → List A → Type 0 where
  no_more : Each Is [] []
  also : {xs ys : List Token} {x : A} {others : List A} → Is xs x → Each Is ys others → Each Is (xs ++ ys) (x ∷ others)

pub data IsAddress : List Token → Option (List ℕ) → Type 0 where
  no_address : IsAddress [] None
  address : {w a : Token} → terminal w ≡ t.At → terminal a ≡ t.Address → IsAddress (w ∷ a ∷ []) (Some (map to_ascii_uppercase a.text))

pub data IsInitial : List Token → Option Number → Type 0 where
  no_initial : IsInitial [] None
  initial : {a v : Token} {ty : Ty} {z : ℤ} → terminal a ≡ t.Assign → terminal v ≡ t.Number → IsLiteral v.text ty z → IsInitial (a ∷ v ∷ []) (Some (number v ty z))

pub data IsDecl : List Token → Decl → Type 0 where
  decl : {w : Token} (c y z : Token) {xs ys : List Token} {place : Option (List ℕ)} {start : Option Number}
      → terminal w ≡ t.Name → IsAddress xs place → terminal c ≡ t.Colon → terminal y ≡ t.Name → IsInitial ys start → terminal z ≡ t.Semicolon
      → IsDecl (w ∷ (xs ++ c ∷ y ∷ (ys ++ z ∷ []))) (record { name = word w; address = place; ty = word y; initial = start })

-- a declaration of a VAR_IN_OUT block
pub data IsBareDecl : List Token → Decl → Type 0 where
  bare_decl : {w c y z : Token} → terminal w ≡ t.Name → terminal c ≡ t.Colon → terminal y ≡ t.Name → terminal z ≡ t.Semicolon
      → IsBareDecl (w ∷ c ∷ y ∷ z ∷ []) (record { name = word w; address = None; ty = word y; initial = None })

pub data IsMark : List Token → Mark → Type 0 where
  plain : IsMark [] mark.Plain
  constant : {w : Token} → terminal w ≡ t.Constant → IsMark (w ∷ []) mark.Constant
  retain : {w : Token} → terminal w ≡ t.Retain → IsMark (w ∷ []) mark.Retain

-- the class of a block that may have a mark, by its first word
abbrev pub marked_class : Terminal → Option TextClass
marked_class t.Var = Some class.Var
marked_class t.VarInput = Some class.Input
marked_class t.VarOutput = Some class.Output
marked_class _ = None

pub data IsBlock : List Token → TextBlock → Type 0 where
  marked : {h : Token} (z : Token) {ms xs : List Token} {c : TextClass} {m : Mark} {ds : List Decl}
      → marked_class (terminal h) ≡ Some c → IsMark ms m → Each IsDecl xs ds → terminal z ≡ t.EndVar → IsBlock (h ∷ (ms ++ (xs ++ z ∷ []))) (record { class = c; mark = m; decls = ds })
  temporary : {h : Token} (z : Token) {xs : List Token} {ds : List Decl}
      → terminal h ≡ t.VarTemp → Each IsDecl xs ds → terminal z ≡ t.EndVar → IsBlock (h ∷ (xs ++ z ∷ [])) (record { class = class.Temp; mark = mark.Plain; decls = ds })
  in_out : {h : Token} (z : Token) {xs : List Token} {ds : List Decl}
      → terminal h ≡ t.VarInOut → Each IsBareDecl xs ds → terminal z ≡ t.EndVar → IsBlock (h ∷ (xs ++ z ∷ [])) (record { class = class.InOut; mark = mark.Plain; decls = ds })

-- ---- units

abbrev pub heading : TextKind → Terminal
heading kind.Program = t.Program
heading kind.FunctionBlock = t.FunctionBlock

abbrev pub ending : TextKind → Terminal
ending kind.Program = t.EndProgram
ending kind.FunctionBlock = t.EndFunctionBlock

pub data IsPou : List Token → PouText → ℕ → Type 0 where
  pou : {h w : Token} (k : TextKind) (z : Token) {xs ys : List Token} {bs : List TextBlock} {ss : List Stmt} {d : ℕ}
      → terminal h ≡ heading k → terminal w ≡ t.Name → Each IsBlock xs bs → AreStmts ys ss d → terminal z ≡ ending k
      → IsPou (h ∷ w ∷ (xs ++ (ys ++ z ∷ []))) (record { kind = k; name = word w; blocks = bs; body = ss }) (suc d)

pub data ArePous : List Token → List PouText → ℕ → Type 0 where
  no_pou : ArePous [] [] 0
  also_pou : {xs ys : List Token} {p : PouText} {ps : List PouText} {d f : ℕ} → IsPou xs p d → ArePous ys ps f → ArePous (xs ++ ys) (p ∷ ps) (max d f)

-- the tokens are a unit of this depth
abbrev pub IsUnit : List Token → tree.Unit → ℕ → Type 0
IsUnit ts u d = ArePous ts u.pous d

-- the greatest depth of a text
abbrev pub limit : ℕ
limit = max_text_depth
