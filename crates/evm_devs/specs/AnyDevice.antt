-- A device of any kind has the kind and the words of the one that it is.
use Rattle.std.specs.Prelude.{ℕ, List}
use Rattle.evm_dev.specs.declared.kind.Kind.{Kind}
use Rattle.evm_dev.specs.declared.kind.Kind.TheVariants as kinds
use Rattle.evm_devs.specs.declared.any_device.AnyDevice.{AnyDevice}
use Rattle.evm_devs.specs.declared.any_device.AnyDevice.TheVariants.{Console, MailRing, MailList, Pins}

abbrev pub kind_of_any : AnyDevice → Kind
kind_of_any (Console bytes) = kinds.Console
kind_of_any (MailRing words) = kinds.Mailbox
kind_of_any (MailList words) = kinds.Mailbox
kind_of_any (Pins words) = kinds.Pins

abbrev pub words_of_any : AnyDevice → List ℕ
words_of_any (Console bytes) = bytes
words_of_any (MailRing words) = words
words_of_any (MailList words) = words
words_of_any (Pins words) = words
