use Rattle.std.proofs.Common.{◌≡◌, ℕ, List, length, sym, refl, ap, ◌∙◌, arith, rules}
use borrow.Rule.Slice.PartMut.{put_mid}
use Rattle.std.proofs.lemmas.Bool.{eq-eqb, ne_eqb}
use Rattle.engine.specs.Areas.{part}
use Rattle.engine.proofs.Maps.{placed}
use Rattle.machine.proofs.Stays.{length_part, small_from_fits}
use Rattle.machine.proofs.Placing.{Headed, header_placed, no_header, stored_is}
use Rattle.machine.proofs.storing.store_with_next.Goals as goal
use Rattle.machine.proofs.storing.store_with_next.Goals.{in-Some-pane, in_default-pane}

pub returns-in_default : goal.returns-in_default
returns-in_default c = record {
  told = sym (ne_eqb _ _ (λ e. c.in_default.ensures.cases (e ∙ placed.size)));
  done = λ e. absurd (search rules);
  kept = λ _. refl;
}

pub returns : goal.returns
returns c =
    let m = c.args.memory.now in
    let w = c.in-Some.ensures.cases in
    let lm : length m ≡ 238304 = w.long in
    let hs = c.copy_from_slice.new.self in
    let mm = c.in-Some.memory.now in
    let lmm : length mm ≡ 238304 = ap length w.same ∙ lm in
    let long : length (part mm 256 64) ≡ 64 = length_part mm 256 64 (omega arith) in
    let headed : Headed m c.match-x.memory c.args.x.pane =
    elim c.match-x.branch [
      | in-Some-pane u ↦
          let h = u.store.new.header in
          header_placed m c.match-x.memory h c.args.x.pane u.in-Some-pane.p lm (u.store.auto.header ∙ long) u.in-Some-pane.is (u.store.ensures.done (u.store.ensures.told ∙ eq-eqb _ 64 long))
          (u.memory-is ∙ ap (λ (y : List ℕ). put_mid 256 64 y h) w.same)
      | in_default-pane u ↦ no_header m c.match-x.memory c.args.x.pane lm u.in_default-pane.is (u.memory-is ∙ w.same)
    ] in
    let n = headed.long in
    let lh : length hs ≡ 16 = omega arith in
    record {
      told = sym (eq-eqb _ _ (lm ∙ sym placed.size));
      done = λ _. stored_is c.args.x c.args.next m c.match-x.memory hs lm headed lh (c.copy_from_slice.ensures.after ∙ c.head_numbers.ensures m) (small_from_fits _ c.type_inv.memory);
      kept = λ e. absurd (search rules);
    }
