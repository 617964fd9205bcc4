use Rattle.std.proofs.Common.{◌≡◌, ◌≤◌, length, take, drop, arith, ◌∙◌, refl, true}
use Rattle.std.proofs.lemmas.List.{length-take, take-append-le}
use Rattle.std.specs.Result.{is_ok}
use Rattle.plcx_io.proofs.Fronts.{Begins, Begins-append}
use Rattle.plcx_io.proofs.loading.load.Goals as goal

pub loop-buf-preserved : goal.loop-buf-preserved
loop-buf-preserved g c =
    let so_far = c.loop-buf.invariant in
    let name = c.args.name.now in
    let told : Begins (g.D.Desk.file c.loop-buf.desk name) c.loop-buf.bytes.items = rw (so_far.files name) so_far.front in
    let grown = Begins-append _ _ _ _ _ (c.len-from.ensures ∙ c.loop-buf.bytes.ok.0) told c.in-Ok.ensures.piece in
    let kept : is_ok c.extend_from_slice.result ≡ true = rw c.if-is_err.false at c.is_err.ensures.negation in
    let within : c.in-Ok.count ≤ length c.read.new.buf = c.in-Ok.ensures.bound.0 in
    let copied = take-append-le c.in-Ok.count c.read.new.buf (drop c.min-room.result c.loop-buf.buf) within in
    let items = rw (kept, copied) at c.extend_from_slice.ensures.items in
    let len = rw (kept, copied) at c.extend_from_slice.ensures.len in
    let piece : length c.read.new.buf ≡ length (take c.min-room.result c.loop-buf.buf) = c.read.auto.buf in
    record {
      front = rw (items, ← so_far.files name) grown;
      room = omega (arith, c.loop-buf-test.true, len, length-take c.in-Ok.count c.read.new.buf, within, piece, length-take c.min-room.result c.loop-buf.buf, c.min-room.ensures, c.len-in-loop-buf.ensures);
      most = refl;
      files = λ other. c.read.ensures.files other ∙ so_far.files other;
      later = λ other. omega (arith, so_far.later other, c.read.ensures.later other);
    }
