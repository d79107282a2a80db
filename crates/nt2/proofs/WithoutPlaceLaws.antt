-- The promises without the place are those with it, read without that field.
use mathlib.Core.Path.{ap}
use Rattle.field.specs.Place.{WithPlace}
use Rattle.writer.specs.Writer.{WriteResult}
use Rattle.protocol.specs.Step.{CallResult}
use Rattle.protocol.specs.Copy.{CopyResult}
use Rattle.fields.specs.Fields.{MessageFields}
use Rattle.nt2.specs.Lent.{WithPast}
use Rattle.nt2.specs.WithoutPlace.{CallsWithoutPlace, CopyWithoutPlace, WriterWithoutPlace, ReaderWithoutPlace}

pub calls_without_place : CallsWithoutPlace
calls_without_place m after k r out e =
    (ap (λ (x : WithPast (WithPlace CallResult)). x.result.result) e, ap (λ (x : WithPast (WithPlace CallResult)). x.past) e)

pub copy_without_place : CopyWithoutPlace
copy_without_place t after message r e =
    (ap (λ (x : WithPast (WithPlace CopyResult)). x.result.result) e, ap (λ (x : WithPast (WithPlace CopyResult)). x.past) e)

pub writer_without_place : WriterWithoutPlace
writer_without_place f out after r e = ap (λ (x : WithPlace WriteResult). x.result) e

pub reader_without_place : ReaderWithoutPlace
reader_without_place updateType m r e = ap (λ (x : WithPlace MessageFields). x.result) e
