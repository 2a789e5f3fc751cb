-- What is said of a bad line.
use Rattle.std.specs.Prelude.{ℕ, List, codes}
use Rattle.days.specs.declared.fault.Fault.{Fault}
use Rattle.days.specs.declared.fault.Fault.TheVariants.{Memory, UnknownWord, BadNumber, BadSize, BadText, TooLong}

abbrev pub message_of : Fault → List ℕ
message_of Memory = codes "no memory is left"
message_of UnknownWord = codes "look, keys, from, gone or show is wanted"
message_of BadNumber = codes "a number of one to ten digits is wanted"
message_of BadSize = codes "a screen has 1 to 200 columns and 2 to 60 rows"
message_of BadText = codes "a text between quotes is wanted, with the escapes of a day"
message_of TooLong = codes "at most 4096 bytes come at once"
