-- The saved form of one table, and what reading it answers, by computation.
use mathlib.Core.Path.{refl}
use Rattle.field.specs.Choice.{pick}
use Rattle.field.specs.Octets.{decode16, encode16, bytes_equal}
use Rattle.utf8.specs.Utf8.{after_first, after_byte, utf8_from, is_utf8}
use Rattle.value.specs.Value.{known_type, parse_boolean, parse_element, parse_value, parse_lone}
use Rattle.table.specs.Names.{holder, name_held}
use Rattle.saved.specs.Form.{filled, count_record, entry_record, entry_records, saved_form}
use Rattle.saved.specs.Reading.{parse_opening, record_entry, all_zero, parse_filling, parse_name_in, parse_up_to_type, parse_value_in, parse_from_type, parse_record, read_records, parse_count, read_saved}
use Rattle.saved.specs.Examples.{FormOfExample, ReadingsOfExample}

pub form_of_example : FormOfExample
unfolding encode16 filled count_record entry_record entry_records saved_form
form_of_example = refl

pub readings_of_example : ReadingsOfExample
unfolding pick decode16 bytes_equal after_first after_byte utf8_from is_utf8 known_type parse_boolean parse_element parse_value parse_lone holder name_held parse_opening record_entry all_zero parse_filling parse_name_in parse_up_to_type parse_value_in parse_from_type parse_record read_records parse_count read_saved
readings_of_example =
    record {
      whole = refl;
      number = refl;
      first_kind = refl;
      count_above = refl;
      count_short = refl;
      bytes_left = refl;
      entry_kind_lem = refl;
      name_length_lem = refl;
      name_empty = refl;
      name_text = refl;
      name_filling = refl;
      other_type = refl;
      value_length_lem = refl;
      value_empty = refl;
      value_byte = refl;
      value_left = refl;
      value_filling = refl;
      nothing = refl;
      cut = refl;
      same_name = refl;
      same_name_first = refl;
      same_name_left = refl;
      same_name_last = refl;
    }
