-- The fields that are given, as they are lent.
use Rattle.writer.specs.Writer.{Fields, lent_fields}
use Rattle.writer.specs.declared.MessageFields.{MessageFields}

abbrev pub given : MessageFields → Fields
given f = lent_fields f.kind f.revision f.name.now f.type_code f.id f.number f.value.now
