use Rattle.std.proofs.Common.{◌≡◌, drop, vec_items}
use Rattle.days.specs.Text.{DigitFits, read_all, start}
use Rattle.days.proofs.text.read_text.Given as goal

abbrev pub invariant-loop-c : goal.invariant-loop-c
invariant-loop-c l =
    (read_all (record { mode = l.mode; bytes = vec_items l.out }) (drop l.c-index l.text) ≡ read_all start l.text)
    × DigitFits l.mode
