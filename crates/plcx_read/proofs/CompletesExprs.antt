-- What was read in front of a fault in an expression.
use Rattle.std.proofs.Common.{◌≡◌, ℕ, ℤ, zero, suc, ◌+◌, ◌≤◌, ◌<◌, cond, ltb, max, add-one, List, [], ◌∷◌, ◌++◌, length, drop, Option, Some, None, Ok, Err, refl, sym, ap, subst, ◌∙◌, append_assoc, arith, inl}
use Rattle.std.proofs.lemmas.List.{append-nil}
use Rattle.std.proofs.lemmas.Bool.{ltb-false}
use Rattle.plcx_types.specs.declared.ty.Ty.{Ty}
use Rattle.plcx_lex.specs.Token.{Token}
use Rattle.plcx_lex.specs.ReadNumber.{literal_of}
use Rattle.plcx_lex.specs.declared.terminal.Terminal.{Terminal}
use Rattle.plcx_lex.specs.declared.terminal.Terminal.TheVariants as t
use Rattle.plcx_lex.specs.Terminal.{terminal}
use Rattle.plcx_st.specs.Grammar.{word, number, operator, level, IsExpr, AreExprs}
use Rattle.plcx_st.specs.Binding.{tightest}
use Rattle.plcx_st.specs.Grammar as g
use Rattle.plcx_st.specs.declared.tree.Word.{Word}
use Rattle.plcx_st.specs.declared.tree.Number.{Number}
use Rattle.plcx_st.specs.declared.tree.Op.{Op}
use Rattle.plcx_st.specs.declared.tree.Expr.{Expr}
use Rattle.plcx_st.specs.declared.tree.Expr.TheVariants as e
use Rattle.plcx_read.specs.Reading.{Stop, syntax, too_deep, told_too_deep, Out, Read, ◌>>=◌, same, next, expect, room, room_told, name_at, with_literal, literal_at, list_of, next_operator, with_operator, call, member, bracketed, negated, named_by, valued, operand_by, operand, climb, level_of, expr}
use Rattle.plcx_read.proofs.Steady.{Reader, done, fault_is, never_both}
use Rattle.plcx_read.proofs.Completes.{Language, Behind, Context, Anything, NoName, Completes, stop_here, deep_here, told_here, completes_along, one_by_one, as_last, inside, behind_any, behind_other, behind_token, free_first, never_told}
use Rattle.plcx_read.proofs.Sound.{by_test, tested, next_found, room_found, told_found}
use Rattle.plcx_read.proofs.SoundExprs.{TookExpr, as_took, FoundOperator, operator_found, stopped_level, stops_top, looser, positive, level_top, operand_sound, expr_sound}
use Rattle.plcx_read.proofs.CompletesLoops.{takes, room_err, told_err, read_then, expect_then, parted_completes}
use Rattle.plcx_read.proofs.Shortest.{Exprs, ExprLists, a_name, a_close, a_value}

no_operator : (q : Terminal) → operator q ≡ None → (x : Token) (o : Op) → operator (terminal x) ≡ Some o → terminal x ≡ q → ⊥
no_operator q none x o is h = let bad : None ≡ Some o = sym none ∙ ap operator (sym h) ∙ is in cc

-- at once
at_once : (C : Context) (a least : ℕ) (ts : List Token) (f : Stop) → 0 < a → (syntax, ts) ≡ f → Completes C (Exprs least) a ts f
at_once C a least ts f pos is = completes_along C (Exprs least) a ts ts (syntax, ts) f refl is (stop_here C (Exprs least) a ts (a_name.token ∷ []) 1 pos (a_value least))

pub name_err : (ts : List Token) (f : Stop) → name_at ts ≡ Err f → (syntax, ts) ≡ f
unfolding name_at
name_err [] f h = fault_is {A = Read Word} (syntax, []) f h
name_err (x ∷ ts) f h = tested (same (terminal x) t.Name) (done (word x, 0, ts)) (syntax, x ∷ ts) f ((syntax, x ∷ ts) ≡ f) (λ is h'. absurd (never_both (word x, 0, ts) f h')) (λ is. is) h

with_literal_err : (o : Option (Ty × ℤ)) (x : Token) (ts : List Token) (f : Stop) → with_literal o x ts ≡ Err f → (syntax, x ∷ ts) ≡ f
with_literal_err None x ts f h = fault_is {A = Read Number} (syntax, x ∷ ts) f h
with_literal_err (Some v) x ts f h = absurd (never_both (number x v.0 v.1, 0, ts) f h)

pub literal_err : (ts : List Token) (f : Stop) → literal_at ts ≡ Err f → (syntax, ts) ≡ f
unfolding literal_at
literal_err [] f h = fault_is {A = Read Number} (syntax, []) f h
literal_err (x ∷ ts) f h = tested (same (terminal x) t.Number) (with_literal (literal_of x.text) x ts) (syntax, x ∷ ts) f ((syntax, x ∷ ts) ≡ f) (λ is h'. with_literal_err (literal_of x.text) x ts f h') (λ is. is) h

module _ (a : ℕ) (inner : ℕ → Reader Expr)
    (took : (least : ℕ) (ts : List Token) (x : Read Expr) → least ≤ tightest → inner least ts ≡ Ok x → TookExpr a least ts x)
    (fails : (least : ℕ) (ts : List Token) (f : Stop) → 0 < a → least ≤ tightest → inner least ts ≡ Err f → Completes NoName (Exprs least) a ts f) where
  list_completes : (ts : List Token) (f : Stop) → 0 < a → list_of (inner 0) ts ≡ Err f → Completes NoName ExprLists a ts f
  list_completes ts f pos h =
      parted_completes (inner 0) (Exprs 0) ExprLists a (λ w d m. (_, g.one_expr m.1)) (λ x w u d c m is r. (_, g.more_exprs x m.1 is r.1)) (λ us x good. takes (IsExpr 0) a us x (as_took a 0 us x (took 0 us x (omega arith) good)))
      (λ us f bad. fails 0 us f pos (omega arith) bad) (length ts + 1) [] 0 ts f (omega arith) h

  call_completes : (least : ℕ) (w : Token) (ts : List Token) (f : Stop) → terminal w ≡ t.Name → next ts ≡ t.Open → call a inner w ts ≡ Err f → Completes NoName (Exprs least) (suc a) (w ∷ ts) f
  unfolding call
  call_completes least w ts f is opens h =
      let o = next_found t.Open ts (λ e. cc) opens in
      completes_along NoName (Exprs least) (suc a) (w ∷ o.token ∷ drop 1 ts) (w ∷ ts) f f (ap (λ (v : List Token). w ∷ v) (sym o.parts)) refl
      (one_by_one NoName (Exprs least) (suc a) (room_told a w ts) (λ _. list_of (inner 0) (drop 1 ts) >>= λ xs. Ok (e.Call (word w) xs.0, xs.1 + 1, xs.2)) (w ∷ o.token ∷ drop 1 ts) f
      (λ bad. completes_along NoName (Exprs least) (suc a) (w ∷ o.token ∷ drop 1 ts) (w ∷ o.token ∷ drop 1 ts) (told_too_deep w, o.token ∷ (drop 1 ts)) f refl
      (ap (λ (v : List Token). (told_too_deep w, v)) (sym o.parts) ∙ (told_err a w ts f bad).1)
      (told_here NoName (Exprs least) (suc a) w o.token (drop 1 ts) [] 1 is (inl o.is) (omega arith) (_, g.name is) (a_name.token ∷ a_close.token ∷ []) 2
      (_, g.call a_close.token is o.is (g.one_expr (g.name a_name.is)) a_close.is)))
      (λ y good bad. behind_token NoName (Exprs least) (suc a) w (o.token ∷ drop 1 ts) f (behind_other Anything (λ u d. Exprs least (w ∷ u) d) (suc a) o.token (λ n. (let bad' : t.Open ≡ t.Name = sym o.is ∙ n in cc)) (drop 1 ts) f
      (one_by_one NoName (λ u d. Exprs least (w ∷ o.token ∷ u) d) (suc a) (list_of (inner 0) (drop 1 ts)) (λ xs. Ok (e.Call (word w) xs.0, xs.1 + 1, xs.2)) (drop 1 ts) f
      (λ bad'. inside NoName (λ u d. Exprs least (w ∷ o.token ∷ u) d) (suc a) ExprLists a suc (λ d le. omega arith) (a_close.token ∷ []) (λ v d l. (_, g.call a_close.token is o.is l.1 a_close.is)) (drop 1 ts) f
      (list_completes (drop 1 ts) f (told_found a w ts y good) bad'))
      (λ xs read bad'. absurd (never_both (e.Call (word w) xs.0, xs.1 + 1, xs.2) f bad')) bad))) h)

  member_completes : (least : ℕ) (w : Token) (ts : List Token) (f : Stop) → terminal w ≡ t.Name → next ts ≡ t.Dot → member w ts ≡ Err f → Completes NoName (Exprs least) (suc a) (w ∷ ts) f
  unfolding member
  member_completes least w ts f is dot h =
      let o = next_found t.Dot ts (λ e. cc) dot in
      completes_along NoName (Exprs least) (suc a) (w ∷ o.token ∷ drop 1 ts) (w ∷ ts) f f (ap (λ (v : List Token). w ∷ v) (sym o.parts)) refl
      (behind_token NoName (Exprs least) (suc a) w (o.token ∷ drop 1 ts) f (behind_token Anything (λ u d. Exprs least (w ∷ u) d) (suc a) o.token (drop 1 ts) f
      (one_by_one Anything (λ u d. Exprs least (w ∷ o.token ∷ u) d) (suc a) (name_at (drop 1 ts)) (λ v. Ok (e.Member (word w) v.0, 1, v.2)) (drop 1 ts) f
      (λ bad. completes_along Anything (λ u d. Exprs least (w ∷ o.token ∷ u) d) (suc a) (drop 1 ts) (drop 1 ts) (syntax, drop 1 ts) f refl (name_err (drop 1 ts) f bad)
      (stop_here Anything (λ u d. Exprs least (w ∷ o.token ∷ u) d) (suc a) (drop 1 ts) (a_name.token ∷ []) 1 (omega arith) (_, g.member is o.is a_name.is)))
      (λ v good bad. absurd (never_both (e.Member (word w) v.0, 1, v.2) f bad)) h)))

  bracket_completes : (least : ℕ) (x : Token) (ts : List Token) (f : Stop) → terminal x ≡ t.Open → bracketed a inner (x ∷ ts) ≡ Err f → Completes NoName (Exprs least) (suc a) (x ∷ ts) f
  unfolding bracketed
  bracket_completes least x ts f is h =
      let L : Language = λ u d. Exprs least (x ∷ u) d in
      one_by_one NoName (Exprs least) (suc a) (room a (x ∷ ts)) (λ _. inner 0 ts >>= λ y. expect t.Close y.2 >>= λ rest. Ok (y.0, y.1 + 1, rest)) (x ∷ ts) f
      (λ bad. completes_along NoName (Exprs least) (suc a) (x ∷ ts) (x ∷ ts) (too_deep, x ∷ ts) f refl (room_err a (x ∷ ts) f bad).1
      (deep_here NoName (Exprs least) (suc a) x ts (a_name.token ∷ []) 1 (free_first x) (omega arith) (a_value least) (a_name.token ∷ a_close.token ∷ []) 2 (_, g.bracket a_close.token is (g.name a_name.is) a_close.is)))
      (λ r good bad. behind_other NoName (Exprs least) (suc a) x (λ n. (let bad' : t.Open ≡ t.Name = sym is ∙ n in cc)) ts f
      (read_then NoName L (suc a) (inner 0 ts) (λ y. expect t.Close y.2 >>= λ rest. Ok (y.0, y.1 + 1, rest)) ts f
      (λ bad'. inside NoName L (suc a) (Exprs 0) a suc (λ d le. omega arith) (a_close.token ∷ []) (λ w d l. (_, g.bracket a_close.token is l.1 a_close.is)) ts f (fails 0 ts f (room_found a (x ∷ ts) r good) (omega arith) bad'))
      (Exprs 0) a (λ y read. takes (IsExpr 0) a ts y (as_took a 0 ts y (took 0 ts y (omega arith) read)))
      (λ y w d l le bad'. expect_then Anything (Behind L w) (suc a) t.Close (λ e. cc) (λ rest. Ok (y.0, y.1 + 1, rest)) y.2 f (a_close.token ∷ []) (suc d) (omega arith) (_, g.bracket a_close.token is l.1 a_close.is)
      (λ z rest shut bad''. absurd (never_both (y.0, y.1 + 1, rest) f bad'')) bad') bad)) h

  not_completes : (least : ℕ) (x : Token) (ts : List Token) (f : Stop) → terminal x ≡ t.Not → negated a inner x (x ∷ ts) ≡ Err f → Completes NoName (Exprs least) (suc a) (x ∷ ts) f
  unfolding negated
  not_completes least x ts f is h =
      let L : Language = λ u d. Exprs least (x ∷ u) d in
      one_by_one NoName (Exprs least) (suc a) (room a (x ∷ ts)) (λ _. inner tightest ts >>= λ y. Ok (e.Not y.0 x.span, y.1 + 1, y.2)) (x ∷ ts) f
      (λ bad. completes_along NoName (Exprs least) (suc a) (x ∷ ts) (x ∷ ts) (too_deep, x ∷ ts) f refl (room_err a (x ∷ ts) f bad).1
      (deep_here NoName (Exprs least) (suc a) x ts (a_name.token ∷ []) 1 (free_first x) (omega arith) (a_value least) (a_name.token ∷ []) 2 (_, g.negation is (g.name a_name.is))))
      (λ r good bad. behind_other NoName (Exprs least) (suc a) x (λ n. (let bad' : t.Not ≡ t.Name = sym is ∙ n in cc)) ts f
      (one_by_one NoName L (suc a) (inner tightest ts) (λ y. Ok (e.Not y.0 x.span, y.1 + 1, y.2)) ts f
      (λ bad'. as_last NoName L (suc a) (Exprs tightest) a suc (λ d le. omega arith) (λ w d l. (_, g.negation is l.1)) ts f (fails tightest ts f (room_found a (x ∷ ts) r good) (omega arith) bad'))
      (λ y read bad'. absurd (never_both (e.Not y.0 x.span, y.1 + 1, y.2) f bad')) bad)) h

  named_completes : (least : ℕ) (q : Terminal) (w : Token) (ts : List Token) (f : Stop) → terminal w ≡ t.Name → next ts ≡ q → named_by a inner q w ts ≡ Err f → Completes NoName (Exprs least) (suc a) (w ∷ ts) f
  named_completes least t.Open w ts f is behind h = call_completes least w ts f is behind h
  named_completes least t.Dot w ts f is behind h = member_completes least w ts f is behind h
  named_completes least _ w ts f is behind h = absurd (never_both (e.Name (word w), 1, ts) f h)

  valued_completes : (least : ℕ) (ts : List Token) (f : Stop) → valued ts ≡ Err f → Completes NoName (Exprs least) (suc a) ts f
  unfolding valued
  valued_completes least ts f h =
      one_by_one NoName (Exprs least) (suc a) (literal_at ts) (λ v. Ok (e.Number v.0, 1, v.2)) ts f (λ bad. at_once NoName (suc a) least ts f (omega arith) (literal_err ts f bad)) (λ v good bad. absurd (never_both (e.Number v.0, 1, v.2) f bad)) h

  kind_completes : (least : ℕ) (q : Terminal) (x : Token) (ts : List Token) (f : Stop) → terminal x ≡ q → operand_by a inner q x ts ≡ Err f → Completes NoName (Exprs least) (suc a) (x ∷ ts) f
  kind_completes least t.Name x ts f is h = named_completes least (next ts) x ts f is refl h
  kind_completes least t.Number x ts f is h = valued_completes least (x ∷ ts) f h
  kind_completes least t.Open x ts f is h = bracket_completes least x ts f is h
  kind_completes least t.Not x ts f is h = not_completes least x ts f is h
  kind_completes least _ x ts f is h = at_once NoName (suc a) least (x ∷ ts) f (omega arith) (fault_is {A = Read Expr} (syntax, x ∷ ts) f h)

  operand_completes : (least : ℕ) (ts : List Token) (f : Stop) → operand a inner ts ≡ Err f → Completes NoName (Exprs least) (suc a) ts f
  unfolding operand
  operand_completes least [] f h = at_once NoName (suc a) least [] f (omega arith) (fault_is {A = Read Expr} (syntax, []) f h)
  operand_completes least (x ∷ ts) f h = kind_completes least (terminal x) x ts f refl h

  -- ---- operators behind an operand

  module _ (least n : ℕ) (xs : List Token) (left : Expr) (depth : ℕ) (us : List Token) (o : Op) (p : FoundOperator least o us) (le : least ≤ n) (lefts : IsExpr n xs left depth) (within : depth ≤ suc a) (stop : next_operator (suc n) us ≡ None) where
    tighter : IsExpr (level o) xs left depth
    tighter = looser lefts (level o) (let lt = stopped_level (suc n) us o least stop p in omega arith)

    -- no room for it
    full_operator : (f : Stop) → (too_deep, us) ≡ f → Completes NoName (Exprs least) (suc a) (xs ++ us) f
    full_operator f is =
        let L : Language = Behind (Exprs least) xs in
        behind_any NoName (Exprs least) (suc a) xs us f
        (completes_along Anything L (suc a) (p.token ∷ drop 1 us) us (too_deep, p.token ∷ (drop 1 us)) f (sym p.parts) (ap (λ (w : List Token). (too_deep, w)) (sym p.parts) ∙ is)
        (deep_here Anything L (suc a) p.token (drop 1 us) [] depth (never_told Anything [] p.token (no_operator t.Open refl p.token o p.is) (no_operator t.Assign refl p.token o p.is)) within
        (subst (λ (w : List Token). Exprs least w depth) (sym (append-nil xs)) (left, looser lefts least le))
        (a_name.token ∷ []) (suc (max depth 1)) (_, g.binary p.token p.tight tighter p.is (g.name a_name.is))))

    right_completes : (f : Stop) → depth ≤ a → 0 < a → inner (level o + 1) (drop 1 us) ≡ Err f → Completes NoName (Exprs least) (suc a) (xs ++ us) f
    right_completes f fits pos bad =
        let L : Language = Behind (Exprs least) xs in
        behind_any NoName (Exprs least) (suc a) xs us f
        (completes_along Anything L (suc a) (p.token ∷ drop 1 us) us f f (sym p.parts) refl
        (behind_other Anything L (suc a) p.token (no_operator t.Name refl p.token o p.is) (drop 1 us) f
        (as_last NoName (λ u d. L (p.token ∷ u) d) (suc a) (Exprs (level o + 1)) a (λ d. suc (max depth d)) (λ d small. omega arith)
        (λ w d l. (_, g.binary p.token p.tight tighter p.is (subst (λ (i : ℕ). IsExpr i w l.0 d) (add-one (level o)) l.1)))
        (drop 1 us) f (fails (level o + 1) (drop 1 us) f pos (let top = level_top o in omega (arith, top)) bad))))

  climb_completes : (f least n : ℕ) (xs : List Token) (left : Expr) (depth : ℕ) (us : List Token) (fault : Stop) → least ≤ n → IsExpr n xs left depth → depth ≤ suc a → next_operator (suc n) us ≡ None
      → climb a inner f least left depth us ≡ Err fault → Completes NoName (Exprs least) (suc a) (xs ++ us) fault
  unfolding climb
  climb_completes zero least n xs left depth us fault le lefts within stop h =
      elim (next_operator least us) as (λ m. next_operator least us ≡ m → with_operator {A = Out Expr} m (Ok (left, depth, us)) (λ o. Err (too_deep, us)) ≡ Err fault → Completes NoName (Exprs least) (suc a) (xs ++ us) fault) [
        | None ↦ λ is h'. absurd cc
        | Some o ↦ λ is h'. full_operator least n xs left depth us o (operator_found least us o is) le lefts within stop fault (fault_is {A = Read Expr} (too_deep, us) fault h')
      ] refl h
  climb_completes (suc f) least n xs left depth us fault le lefts within stop h =
      elim (next_operator least us) as (λ m. next_operator least us ≡ m → with_operator {A = Out Expr} m (Ok (left, depth, us)) (λ o.
      cond (ltb a depth) (Err (too_deep, us)) (inner (level o + 1) (drop 1 us) >>= λ y. climb a inner f least (e.Binary o left y.0) (max depth y.1 + 1) y.2)) ≡ Err fault → Completes NoName (Exprs least) (suc a) (xs ++ us) fault) [
        | None ↦ λ is h'. absurd cc
        | Some o ↦ λ is h'.
            let p = operator_found least us o is in
            by_test (ltb a depth) (Err (too_deep, us)) (inner (level o + 1) (drop 1 us) >>= λ y. climb a inner f least (e.Binary o left y.0) (max depth y.1 + 1) y.2) (λ r. r ≡ Err fault) (Completes NoName (Exprs least) (suc a) (xs ++ us) fault)
            (λ full bad. full_operator least n xs left depth us o p le lefts within stop fault (fault_is {A = Read Expr} (too_deep, us) fault bad))
            (λ fits bad.
            (let low : depth ≤ a = ltb-false a depth fits in
            let pos : 0 < a = omega (arith, positive lefts) in
            one_by_one NoName (Exprs least) (suc a) (inner (level o + 1) (drop 1 us)) (λ y. climb a inner f least (e.Binary o left y.0) (max depth y.1 + 1) y.2) (xs ++ us) fault
            (right_completes least n xs left depth us o p le lefts within stop fault low pos)
            (λ y good bad'.
            (let r = took (level o + 1) (drop 1 us) y (let top = level_top o in omega (arith, top)) good in
            let right : IsExpr (suc (level o)) r.tokens y.0 y.1 = subst (λ (i : ℕ). IsExpr i r.tokens y.0 y.1) (add-one (level o)) r.is in
            let whole : IsExpr (level o) (xs ++ p.token ∷ r.tokens) (e.Binary o left y.0) (suc (max depth y.1)) = g.binary p.token (omega arith) (tighter least n xs left depth us o p le lefts within stop) p.is right in
            let ends : next_operator (suc (level o)) y.2 ≡ None = subst (λ (i : ℕ). next_operator i y.2 ≡ None) (add-one (level o)) r.stops in
            let parts : (xs ++ p.token ∷ r.tokens) ++ y.2 ≡ xs ++ us = append_assoc xs (p.token ∷ r.tokens) y.2 ∙ ap (λ (z : List Token). xs ++ z) (ap (λ (z : List Token). p.token ∷ z) (sym r.parts) ∙ sym p.parts) in
            completes_along NoName (Exprs least) (suc a) ((xs ++ p.token ∷ r.tokens) ++ y.2) (xs ++ us) fault fault parts refl
            (climb_completes f least (level o) (xs ++ p.token ∷ r.tokens) (e.Binary o left y.0) (max depth y.1 + 1) y.2 fault p.tight
            (subst (λ (i : ℕ). IsExpr (level o) (xs ++ p.token ∷ r.tokens) (e.Binary o left y.0) i) (sym (add-one (max depth y.1))) whole) (omega (arith, r.within)) ends bad'))) bad)) h'
      ] refl h

  level_completes : (least : ℕ) (ts : List Token) (f : Stop) → least ≤ tightest → level_of a inner least ts ≡ Err f → Completes NoName (Exprs least) (suc a) ts f
  unfolding level_of
  level_completes least ts f le h =
      one_by_one NoName (Exprs least) (suc a) (operand a inner ts) (λ y. climb a inner (a + 1) least y.0 y.1 y.2) ts f (operand_completes least ts f)
      (λ y good bad. (let m = operand_sound a inner took ts y good in
      completes_along NoName (Exprs least) (suc a) (m.tokens ++ y.2) ts f f (sym m.parts) refl (climb_completes (a + 1) least tightest m.tokens y.0 y.1 y.2 f le m.is m.within (stops_top y.2) bad))) h

pub expr_completes : (a least : ℕ) (ts : List Token) (f : Stop) → 0 < a → least ≤ tightest → expr a least ts ≡ Err f → Completes NoName (Exprs least) a ts f
unfolding expr
expr_completes zero least ts f pos le h = absurd (omega arith)
expr_completes (suc a) least ts f pos le h = level_completes a (expr a) (expr_sound a) (expr_completes a) least ts f le h
