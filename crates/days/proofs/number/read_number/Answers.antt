use Rattle.std.proofs.Common.{◌≡◌, ◌+◌, ◌*◌, ◌^◌, ◌≤◌, length, sym, ◌∙◌, pow-suc, add-one, arith}
use Rattle.std.proofs.lemmas.Bool.Decides.{nat_tests}
use Rattle.days.proofs.Numbers.{number_more, number_stops, number_ends, number_of_digits}
use Rattle.days.proofs.number.read_number.Goals as goal

pub returns-then-not-is_ascii_digit : goal.returns-then-not-is_ascii_digit
returns-then-not-is_ascii_digit c =
    let some : 1 ≤ length c.args.digits.now = grind (arith, nat_tests) in
    number_stops c.args.digits.now c.loop-c.c-index c.loop-c.n _ c.loop-c-test.true (sym c.is_ascii_digit.ensures.value ∙ c.if-not-is_ascii_digit.true) (c.loop-c.invariant.0 ∙ number_of_digits _ some c.if-digits-gt10.false)

pub loop-c-preserved : goal.loop-c-preserved
loop-c-preserved c =
    let i = c.loop-c.c-index in
    let p : 10 ^ (i + 1) ≡ 10 ^ i * 10 = rw add-one (pow-suc 10 i) in
    let e = sym c.is_ascii_digit.ensures.value ∙ c.if-not-is_ascii_digit.false in
    let n = number_more c.args.digits.now i c.loop-c.n _ c.loop-c-test.true e c.loop-c.invariant.0 in
    (rw (c.from.ensures) n, grind (arith, nat_tests, e, p))

pub returns : goal.returns
returns c =
    let some : 1 ≤ length c.args.digits.now = grind (arith, nat_tests) in
    number_ends c.args.digits.now c.loop-c.c-index c.loop-c.n _ c.loop-c-test.false (c.loop-c.invariant.0 ∙ number_of_digits _ some c.if-digits-gt10.false)
