-- What a ghost member of the page source cites.
use Rattle.std.specs.Prelude.{◌≡◌, Some, None}
use Rattle.std.proofs.Common.{ap}
use Rattle.rlsf_model.specs.Note.{Note, alloc, dealloc, grow}
use Rattle.rlsf_model_global.specs.Cursor.{PageCursor, PageLeads, terms_of}

-- no question changes the source's terms
pub constant_pages : (x y : PageCursor) (n : Note) → PageLeads x n y → terms_of y ≡ terms_of x
constant_pages x y (alloc size None) led = ap terms_of led.1
constant_pages x y (alloc size (Some r)) led = ap terms_of led.2
constant_pages x y (grow r len None) led = ap terms_of led.1
constant_pages x y (grow r len (Some given)) led = ap terms_of led.3
constant_pages x y (dealloc r) led = ap terms_of led
