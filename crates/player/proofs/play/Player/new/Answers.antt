use Rattle.std.proofs.Common.{refl}
use Rattle.player.specs.Screens.{screen_of}
use Rattle.player.proofs.Playing.{one_cell}
use Rattle.player.proofs.play.Player.new.Goals as goal

pub returns : goal.returns
returns c =
    let k = rw c.unwrap-size.ensures at c.new.ensures in
    record {
      memory = c.in_ok-vec.ensures.items_if_clones_equal (λ y e. e);
      out = c.in_ok-vec-2.ensures.items_if_clones_equal (λ y e. e);
      screen = one_cell (screen_of c.in_ok-new.field-0) c.unwrap-size.result.wide c.unwrap-size.result.high c.in_ok-new.ensures.0 k.1 k.2;
      attached = refl;
      things = refl;
      sent = refl;
      granted = refl;
    }
