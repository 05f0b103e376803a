-- What reading a formatted binary line answers to a host, as numbers: "A refusal returns its code, any other number in the answer 0".
use Rattle.std.specs.Prelude.{Result, Ok, Err}
use Rattle.answers.specs.declared.Refusal.{Refusal}
use Rattle.answers.specs.Refusals.{code_of}
use Rattle.binary.specs.declared.binary_read.BinaryRead.{BinaryRead}
use Rattle.binary.specs.declared.binary_read.BinaryAnswer.{BinaryAnswer}

abbrev pub binary_answer : Result BinaryRead Refusal → BinaryAnswer
binary_answer (Ok line) =
    record { code = 0; count = line.count; status = line.status; position = line.position; coming = line.coming; sum = line.sum }
binary_answer (Err refusal) = record { code = code_of refusal; count = 0; status = 0; position = 0; coming = 0; sum = 0 }
