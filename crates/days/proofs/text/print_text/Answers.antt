use Rattle.std.proofs.Common.{rules}
use Rattle.std.proofs.lemmas.Result.{IfOk-from_err}
use Rattle.days.proofs.Escapes.{bytes_from_fits, read_back, print_more, print_done}
use Rattle.days.proofs.text.print_text.Goals as goal

pub loop-b-preserved : goal.loop-b-preserved
loop-b-preserved c = print_more _ _ _ c.args.bytes.now _ c.loop-b-test.true c.in_ok-print_byte.ensures.all c.loop-b.invariant

pub returns : goal.returns
returns c = record {
  printed = record { all = print_done _ _ c.args.bytes.now _ c.loop-b-test.false c.loop-b.invariant };
  back = read_back _ (bytes_from_fits _ c.type_inv.bytes);
}

pub returns-in_err-print_byte : goal.returns-in_err-print_byte
returns-in_err-print_byte c = record {
  printed = search (rules, IfOk-from_err);
  back = read_back _ (bytes_from_fits _ c.type_inv.bytes);
}
