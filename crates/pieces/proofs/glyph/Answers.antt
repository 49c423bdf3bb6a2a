-- `pieces::glyph` meets its contract.
use mathlib.Core.Path.{sym}
use Rattle.pieces.specs.Hex.{glyph_low, glyph_high}
use Rattle.pieces.proofs.glyph.Goals as goal

pub returns-then-d-lt10 : goal.returns-then-d-lt10
returns-then-d-lt10 c = sym (glyph_low _ c.if-d-lt10.true)

pub returns : goal.returns
returns c = sym (glyph_high _ c.if-d-lt10.false)
