use Rattle.std.proofs.Common.{◌∙◌}
use Rattle.plcx_bench_file.proofs.Spelled.{in_file}
use Rattle.plcx_bench_file.proofs.spelling.bench_file.Goals as goal

pub returns : goal.returns
returns c =
    in_file c.args.n c.deref.result.now c.deref-2.result.now c.new-text.result.items c.extend_from_slice.new.self.items c.extend_from_slice-2.new.self.items
    c.extend_from_slice-3.new.self.items c.extend_from_slice-4.new.self.items c.extend_from_slice-5.new.self.items
    c.new-text.ensures.items c.in_ok-extend_from_slice.ensures.items c.in_ok-extend_from_slice-2.ensures.items c.in_ok-extend_from_slice-3.ensures.items
    c.in_ok-extend_from_slice-4.ensures.items c.in_ok-extend_from_slice-5.ensures.items
    (c.deref.ensures.value ∙ c.in_ok-declarations_of.ensures) (c.deref-2.ensures.value ∙ c.in_ok-networks_of.ensures)
