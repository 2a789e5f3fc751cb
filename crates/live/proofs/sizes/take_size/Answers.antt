use Rattle.live.proofs.sizes.take_size.Goals as goal

pub returns-in-None : goal.returns-in-None
returns-in-None c = c.attach_first.ensures c.args.out.now
