-- The marked texts, and the edges of UTF-8's rows.
use mathlib.Core.Path.{refl}
use Rattle.field.specs.Choice.{pick}
use Rattle.utf8.specs.Utf8.{after_first, after_byte, utf8_from, is_utf8}
use Rattle.utf8.specs.MarkedTexts.{MarkedTextsHold}
use Rattle.utf8.specs.Edges.{EdgesHold}

pub marked_texts_lem : MarkedTextsHold
unfolding is_utf8 utf8_from after_byte after_first pick
marked_texts_lem = refl

pub edges_hold : EdgesHold
unfolding is_utf8 utf8_from after_byte after_first pick
edges_hold = refl
