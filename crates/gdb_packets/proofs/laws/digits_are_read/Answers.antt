use Rattle.gdb_packets.proofs.Digits.{bytes_of_digits-takes, bytes_of_digits-again}
use Rattle.gdb_packets.proofs.laws.digits_are_read.Goals as goal

pub returns : goal.returns
returns c bytes digits = (bytes_of_digits-takes bytes digits, bytes_of_digits-again bytes digits)
