use Rattle.std.proofs.Common.{◌≡◌, Err, ap, inr, rules, sym, subst}
use Rattle.plcx_scan.specs.Events.{meant_events}
use Rattle.plcx_state.specs.Layouts.{Laid}
use Rattle.plcx_traced.specs.Files.{IsWrongRow, wrong}
use Rattle.plcx_traced.specs.declared.error.RunError.TheVariants.{NoMemory}
use Rattle.plcx_traced.proofs.tracing.trace_in.Goals as goal

pub returns-in_ok-run_to_text-in-Ok-clause-ok : goal.returns-in_ok-run_to_text-in-Ok-clause-ok
returns-in_ok-run_to_text-in-Ok-clause-ok g c = λ told loaded.
    let leaves = (g.S.Side.laid c.args.side.now).leaves in
    let own = ap (λ (l : Laid). l.leaves) c.layout.ensures.laid in
    let stands = rw (own, c.layout.ensures.meaning) at c.in-Ok.ensures.ok in
    record {
      events = meant_events leaves c.in-Ok.events;
      tells = record { bytes = c.args.bytes.now; loaded = loaded; stands = stands };
      trace = c.in_ok-run_to_text-in-Ok.ensures.text;
      brings = c.in_ok-run_to_text-in-Ok.ensures.meaning;
    }

pub returns-in-Err-Row-clause-err : goal.returns-in-Err-Row-clause-err
returns-in-Err-Row-clause-err g c = λ told loaded.
    let own = ap (λ (l : Laid). l.leaves) c.layout.ensures.laid in
    let why = rw (own, c.layout.ensures.meaning, c.in-Err-Row.field-0-is) at c.in-Err-Row.ensures.err in
    subst (IsWrongRow told (g.S.Side.machine c.args.side.now).layout) (sym c.in-Err-Row.row-is) (wrong c.args.bytes.now loaded why)

pub returns-in_err-run_to_text-in-Ok-clause-stops : goal.returns-in_err-run_to_text-in-Ok-clause-stops
returns-in_err-run_to_text-in-Ok-clause-stops g c =
    let leaves = (g.S.Side.laid c.args.side.now).leaves in
    let own = ap (λ (l : Laid). l.leaves) c.layout.ensures.laid in
    let stands = rw (own, c.layout.ensures.meaning) at c.in-Ok.ensures.ok in
    let same : c.from_residual.result ≡ Err NoMemory = search rules in
    let stopped = c.in_err-run_to_text-in-Ok.ensures.stopped in
    rw same (λ told loaded.
    inr (record {
      events = meant_events leaves c.in-Ok.events;
      tells = record { bytes = c.args.bytes.now; loaded = loaded; stands = stands };
      brings = stopped;
    }))
