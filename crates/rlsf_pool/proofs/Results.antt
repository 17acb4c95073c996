-- What the exports return, other than numbers, and what lies behind their handle.
use Rattle.rlsf_c_lemmas.proofs.Contracts.{Returned}
use Rattle.rlsf_pool_calls.specs.contracts.answers.Answer as an_answer
use Rattle.rlsf_pool_calls.specs.contracts.answers.BlockAnswer as a_block
use Rattle.rlsf_blocks.specs.contracts.totals.Totals as the_totals
use Rattle.rlsf_pool_calls.specs.contracts.pool.Pool as a_pool
use Rattle.rlsf_pool_calls.specs.contracts.space.OffsetSpace as a_space
use Rattle.rlsf_pool_calls.proofs.answers.Answer.TheLaws as answer_laws
use Rattle.rlsf_pool_calls.proofs.answers.BlockAnswer.TheLaws as block_laws
use Rattle.rlsf_blocks.proofs.totals.Totals.TheLaws as totals_laws
use Rattle.rlsf_pool_calls.proofs.pool.Pool.TheLaws as pool_laws
use Rattle.rlsf_pool_calls.proofs.space.OffsetSpace.TheLaws as space_laws
use seplogic.Ra.Ura.{Ura}
use types.Logic.{Logic}

module _ {M : Type 1} {𝓤 : Ura M} (𝓛 : Logic 𝓤) where
  abbrev pub answer : Returned
  answer = record { row = an_answer.the_row; typed = λ r v is. ((answer_laws.the_row_laws.lawful 𝓛).typed r _ is).0 }

  abbrev pub block : Returned
  block = record { row = a_block.the_row; typed = λ r v is. ((block_laws.the_row_laws.lawful 𝓛).typed r _ is).0 }

  abbrev pub totals : Returned
  totals = record { row = the_totals.the_row; typed = λ r v is. ((totals_laws.the_row_laws.lawful 𝓛).typed r _ is).0 }

  abbrev pub pool : Returned
  pool = record { row = a_pool.the_row; typed = λ r v is. ((pool_laws.the_row_laws.lawful 𝓛).typed r _ is).0 }

  abbrev pub space : Returned
  space = record { row = a_space.the_row; typed = λ r v is. ((space_laws.the_row_laws.lawful 𝓛).typed r _ is).0 }
