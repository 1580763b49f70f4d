mod Local
