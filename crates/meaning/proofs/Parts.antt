-- Bytes written in two parts.
use Rattle.std.proofs.Common.{[], ◌∷◌, refl}
use Rattle.meaning.specs.Bytes.{byte, written}
use Rattle.meaning.specs.Laws.{InParts}

pub in_parts : InParts
unfolding written
in_parts t [] bs = refl
in_parts t (c ∷ cs) bs = in_parts (byte t c) cs bs
