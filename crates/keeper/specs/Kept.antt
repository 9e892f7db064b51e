-- The station that a value keeps.
use Rattle.protocol.specs.Memory.{memory_of}
use Rattle.protocol.specs.State.{Station, station_of}
use Rattle.keeper.specs.declared.Keeper.{Keeper}

abbrev pub kept_by : Keeper → Station
kept_by k = station_of k.room k.lines.at (memory_of k.lo k.hi k.asker k.hits k.count k.next)
