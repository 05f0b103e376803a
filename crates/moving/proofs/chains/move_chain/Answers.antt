-- Rests on `EntryMoved`: only a linked file has links.
use Rattle.moving.proofs.EntryMoved.{chain_other, chain_linked}
use Rattle.moving.proofs.chains.move_chain.Goals as goal

pub returns-then-kind-ne2 : goal.returns-then-kind-ne2
returns-then-kind-ne2 c = chain_other c.requires.source.0 c.requires.source.1 c.entry_word-kind.ensures.value c.if-kind-ne2.true c.requires.partly

pub move_links-requires : goal.move_links-requires
move_links-requires c = record {
  linked_entry = chain_linked c.requires.source.0 c.requires.source.1 c.entry_word-kind.ensures.value c.if-kind-ne2.false c.entry_word-first.ensures.value
      c.entry_word-count.ensures.value;
  partly = c.requires.partly;
}
