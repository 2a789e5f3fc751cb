use Rattle.player.proofs.Playing.{attended_look, attended_other}
use Rattle.player.proofs.play.Player.attend.Goals as goal

pub returns-in-Look : goal.returns-in-Look
returns-in-Look c = attended_look _ _ _ _ _ _ c.in-Look.is c.look.ensures

pub returns-in_default : goal.returns-in_default
returns-in_default c = attended_other c.args.self.now _ c.in_default.not-Look
