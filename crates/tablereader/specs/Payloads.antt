-- The payload that a PATCH was read from.
use Rattle.std.specs.Prelude.{ℕ, List}
use Rattle.tablereader.specs.declared.patch.Patch.{Patch}
use Rattle.tablereader.specs.Patches.{patch_of}

abbrev pub payload_of : Patch → List ℕ
payload_of q = patch_of q.place q.size q.bits q.bytes.now
