-- `reported_place` tells the place as the rule does, with 7 to 10.
use Rattle.field.proofs.PlaceLaws.{told_place, untold_place}
use Rattle.field.proofs.Fault.reported_place.Goals as goal

pub returns-in-UnknownType : goal.returns-in-UnknownType
returns-in-UnknownType c = rw (← c.self.view_is) (told_place c.self.inside.refusal c.self.inside.place c.in-UnknownType.is)

pub returns-in_default : goal.returns-in_default
returns-in_default c =
    let d = c.in_default in
    rw (← c.self.view_is) (untold_place c.self.inside.refusal c.self.inside.place d.not-UnknownType d.not-BadBoolean d.not-NotUtf8 d.not-TooLong)
