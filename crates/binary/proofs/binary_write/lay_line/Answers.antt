-- Rests on `BinaryWritingAnswers`: the header, the data and the last byte are the line.
use Rattle.binary.proofs.BinaryWritingAnswers.{header_writable, data_writable, last_layable, line_laid}
use Rattle.binary.proofs.binary_write.lay_line.Goals as goal

pub lay_header-headed-requires : goal.lay_header-headed-requires
lay_header-headed-requires c = record { writable = header_writable c.args.content.now c.requires.writable; count_bound = c.requires.content_len_bound }

pub lay_bytes-filled-requires : goal.lay_bytes-filled-requires
lay_bytes-filled-requires c = data_writable c.args.content.now c.requires.writable c.lay_header-headed.ensures

pub lay-requires : goal.lay-requires
lay-requires c = last_layable c.args.content.now c.requires.writable c.lay_header-headed.ensures
    c.lay_bytes-filled.ensures c.sum_byte-last.ensures

pub returns : goal.returns
returns c = line_laid c.args.content.now c.requires.writable c.lay_header-headed.ensures
    c.lay_bytes-filled.ensures c.sum_byte-last.ensures c.lay.ensures.gather_after c.lay.ensures.laid_byte
