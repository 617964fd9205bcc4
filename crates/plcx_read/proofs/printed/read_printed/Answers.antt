use Rattle.std.proofs.Common.{◌≡◌, ◌≤◌, ℕ, List, Result, Ok, Err, refl, sym, ap, subst, ◌∙◌}
use Rattle.std.specs.Prelude.{IfOk, IfErr}
use Rattle.plcx_lex.specs.declared.error.TextError.{TextError}
use Rattle.plcx_lex.specs.declared.error.TextError.TheVariants as text
use Rattle.plcx_meaning.specs.Tree.{PouText}
use Rattle.plcx_st.specs.declared.tree.Unit as tree
use Rattle.plcx_st.specs.Meant.{meant}
use Rattle.plcx_st.specs.Print.{printed}
use Rattle.plcx_st.specs.Grammar.{limit}
use Rattle.plcx_st.specs.Stands.{StandsForUnit}
use Rattle.plcx_read.specs.Fails.{IsRead}
use Rattle.plcx_read.proofs.printed.read_printed.Goals as goal

reads_same : (r : Result tree.Unit TextError) (v : tree.Unit) (unit : List PouText) → IsRead r v → meant v ≡ unit → IfOk r (λ again. meant again ≡ unit)
reads_same (Ok u) v unit is e = ap meant is ∙ e
reads_same (Err error) v unit is e = tt

fails_for_memory : (r : Result tree.Unit TextError) (v : tree.Unit) → IsRead r v → IfErr r (λ error. error ≡ text.NoMemory)
fails_for_memory (Ok u) v is = tt
fails_for_memory (Err text.NoMemory) v is = refl
fails_for_memory (Err (text.Lex at)) v is = absurd is
fails_for_memory (Err (text.Syntax at)) v is = absurd is
fails_for_memory (Err (text.TooDeep at)) v is = absurd is

-- the unit that the printed bytes stand for, which is what was read
record Again (bytes : List ℕ) (r : Result tree.Unit TextError) (unit : List PouText) : Type 0 where
  value : tree.Unit
  is : IsRead r value
  same : meant value ≡ unit

again : (bytes : List ℕ) (r : Result tree.Unit TextError) (unit : List PouText) → bytes ≡ printed unit → ((v : tree.Unit) (d : ℕ) → d ≤ limit → StandsForUnit bytes v d → IsRead r v)
    → ((v : tree.Unit) × (d : ℕ) × (d ≤ limit) × StandsForUnit (printed unit) v d × (meant v ≡ unit)) → Again bytes r unit
again bytes r unit e only p = record { value = p.0; is = only p.0 p.1 p.2 (subst (λ (b : List ℕ). StandsForUnit b p.0 p.1) (sym e) p.3); same = p.4 }

pub returns-clause-same : goal.returns-clause-same
returns-clause-same c = λ good fits.
    let unit = meant c.args.unit.now in
    let a = again c.deref.result.now c.read.result unit (c.deref.ensures.value ∙ c.in-Ok.ensures.printed) c.read.ensures.only (c.read_again.ensures unit good fits) in
    reads_same c.read.result a.value unit a.is a.same

pub returns-clause-fails : goal.returns-clause-fails
returns-clause-fails c = λ good fits.
    let unit = meant c.args.unit.now in
    let a = again c.deref.result.now c.read.result unit (c.deref.ensures.value ∙ c.in-Ok.ensures.printed) c.read.ensures.only (c.read_again.ensures unit good fits) in
    fails_for_memory c.read.result a.value a.is
