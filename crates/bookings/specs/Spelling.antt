-- How a text spells the keys of bookings.
use Rattle.std.specs.Prelude.{List, codes, ℕ}
use Rattle.bookings.specs.declared.booking_keys.BookingKey.{BookingKey}
use Rattle.bookings.specs.declared.booking_keys.BookingKey.TheVariants as key

abbrev pub spelling : BookingKey → List ℕ
spelling key.Vessel = codes "vessel"
spelling key.Voyage = codes "voyage"
spelling key.Sender = codes "sender"
spelling key.Recipient = codes "recipient"
spelling key.Date = codes "date"
spelling key.Rotation = codes "rotation"
spelling key.Tariff = codes "tariff"
spelling key.Container = codes "container"
spelling key.Id = codes "id"
spelling key.From = codes "from"
spelling key.To = codes "to"
spelling key.IsoType = codes "type"
spelling key.Kg = codes "kg"
spelling key.Vgm = codes "vgm"
spelling key.Empty = codes "empty"
spelling key.Temperature = codes "temperature"
spelling key.Class = codes "class"
spelling key.Unno = codes "unno"
