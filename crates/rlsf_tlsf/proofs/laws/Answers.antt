-- The laws of the reference model, and of the words.
use Rattle.std.proofs.Common.{rules}
use Rattle.rlsf_blocks.proofs.Payloads.UnknownAlignment.{words_give_block}
use Rattle.rlsf_blocks.proofs.Payloads.Unlent.{words_read_no_payload}
use Rattle.rlsf_tlsf.proofs.laws.Goals as goal

pub returns : goal.returns
returns c = record {
  steps = search rules;
  sources = search rules;
  sizing = search rules;
  words = words_read_no_payload;
  by_words = words_give_block;
}
