-- What reading and writing a line answer to a host, as numbers: "A refusal returns its code, any other number in the answer 0".
use Rattle.std.specs.Prelude.{Result, Ok, Err}
use Rattle.answers.specs.declared.Refusal.{Refusal}
use Rattle.answers.specs.Refusals.{code_of}
use Rattle.lines.specs.declared.line_read.LineRead.{LineRead}
use Rattle.lines.specs.declared.line_read.ReadAnswer.{ReadAnswer}
use Rattle.lines.specs.declared.line_write.LineWritten.{LineWritten}
use Rattle.lines.specs.declared.line_write.WriteAnswer.{WriteAnswer}

abbrev pub read_answer : Result LineRead Refusal → ReadAnswer
read_answer (Ok line) = record { code = 0; count = line.count; status = line.status; position = line.position }
read_answer (Err refusal) = record { code = code_of refusal; count = 0; status = 0; position = 0 }

abbrev pub write_answer : Result LineWritten Refusal → WriteAnswer
write_answer (Ok line) = record { code = 0; count = line.count; status = line.status; filled = line.filled }
write_answer (Err refusal) = record { code = code_of refusal; count = 0; status = 0; filled = 0 }
