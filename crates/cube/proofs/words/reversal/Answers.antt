use Rattle.std.proofs.Common.{refl}
use Rattle.cube.proofs.LiteralMarks.{mask_test, reversal-bits}
use Rattle.cube.proofs.words.reversal.Goals as goal

pub exchange-word-requires-clause-mask : goal.exchange-word-requires-clause-mask
exchange-word-requires-clause-mask c = mask_test 1 6148914691236517205 refl refl

pub exchange-word-requires-2-clause-mask : goal.exchange-word-requires-2-clause-mask
exchange-word-requires-2-clause-mask c = mask_test 2 3689348814741910323 refl refl

pub exchange-word-requires-3-clause-mask : goal.exchange-word-requires-3-clause-mask
exchange-word-requires-3-clause-mask c = mask_test 4 1085102592571150095 refl refl

pub exchange-word-requires-4-clause-mask : goal.exchange-word-requires-4-clause-mask
exchange-word-requires-4-clause-mask c = mask_test 8 71777214294589695 refl refl

pub exchange-word-requires-5-clause-mask : goal.exchange-word-requires-5-clause-mask
exchange-word-requires-5-clause-mask c = mask_test 16 281470681808895 refl refl

pub exchange-requires-clause-mask : goal.exchange-requires-clause-mask
exchange-requires-clause-mask c = mask_test 32 4294967295 refl refl

pub returns : goal.returns
returns c =
    reversal-bits c.args.word _ _ _ _ _ c.exchange.result c.exchange-word.ensures c.exchange-word-2.ensures c.exchange-word-3.ensures
    c.exchange-word-4.ensures c.exchange-word-5.ensures c.exchange.ensures
